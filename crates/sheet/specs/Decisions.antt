-- Decisions of what this crate's meanings state. Each carries its proof, so none has to be read.
--   from_to?, stage_in_range?, each_stage?, inRange?, all_zero?, formed_side?, well_formed?      whether each condition of the layout is kept
use Rattle.std.specs.Prelude.{ℕ, ◌-◌, ◌*◌, ◌^◌, List, [], ◌∷◌, length, drop, get_or}
use Rattle.std.proofs.Math.Decide.{ℕ_discrete, dec_le}
use Rattle.kinds.specs.Decided.{both, through, each_below}
use Rattle.kinds.specs.Edition.{Edition}
use Rattle.kinds.specs.Frame.{tick_bits}
use Rattle.bits.specs.Decisions.{all_below?}
use Rattle.sheet.specs.Sheet.{Side, address_places, wiring_places, count_place, stage_places, side_of, write_places, read_places}
use Rattle.sheet.specs.declared.Stage.{Stage}
use Rattle.sheet.specs.Layout.{FromTo, StageInRange, EachStage, InRange, AllZero, FormedSide, WellFormed}

unfoldable pub from_to? : (a b x : ℕ) → Dec (FromTo a b x)
unfolding dec_le
from_to? a b x = through (λ (l, m). record { least = l; most = m }, λ r. (r.least, r.most)) (both (dec_le a x) (dec_le x b))

unfoldable pub stage_in_range? : (ports ticks : ℕ) (s : Stage) → Dec (StageInRange ports ticks s)
unfolding from_to?
stage_in_range? ports ticks s =
    through (λ (d, c). record { direction = d; control = c }, λ r. (r.direction, r.control))
    (both (from_to? 1 (ports - 1) s.direction) (from_to? 1 (ticks - 1) s.control))

unfoldable pub each_stage? : {Q : Stage → Type 0} → ((s : Stage) → Dec (Q s)) → (ss : List Stage) → Dec (EachStage Q ss)
each_stage? Q? [] = yes tt
each_stage? Q? (s ∷ ss) = both (Q? s) (each_stage? Q? ss)

unfoldable pub in_range? : (n k : ℕ) (S : Side) → Dec (InRange n k S)
unfolding all_below? each_stage? stage_in_range?
in_range? n k S =
    through (λ (a, (w, s)). record { addresses = a; wiring = w; stages = s }, λ r. (r.addresses, (r.wiring, r.stages)))
    (both (all_below? (2 ^ tick_bits n k) S.addresses) (both (all_below? (2 ^ k) S.wiring) (each_stage? (stage_in_range? (2 ^ k) (2 ^ tick_bits n k)) S.stages)))

unfoldable pub all_zero? : (l : List ℕ) → Dec (AllZero l)
unfolding each_below
all_zero? l = each_below (λ j. ℕ_discrete (get_or l j 0) 0) (length l)

unfoldable pub formed_side? : (e : Edition) (n k : ℕ) (l : List ℕ) → Dec (FormedSide e n k l)
unfolding in_range? all_zero? dec_le
formed_side? e n k l =
    through (
      λ (c, (u, (a, (w, s)))). record { count = c; used = u; addresses_unused = a; wiring_unused = w; stages_unused = s },
      λ f. (f.count, (f.used, (f.addresses_unused, (f.wiring_unused, f.stages_unused)))),
    )
    (both (dec_le (count_place e l) e.most_stages) (both (in_range? n k (side_of e n k l)) (both (all_zero? (drop n (address_places e l)))
    (both (all_zero? (drop k (wiring_places e l))) (all_zero? (drop (2 * count_place e l) (stage_places e l)))))))

unfoldable pub well_formed? : (e : Edition) (n k : ℕ) (s : List ℕ) → Dec (WellFormed e n k s)
unfolding formed_side?
well_formed? e n k s =
    through (λ (w, r). record { write = w; read = r }, λ f. (f.write, f.read))
    (both (formed_side? e n k (write_places e s)) (formed_side? e n k (read_places e s)))
