-- The table of 1 to 9.
--   inspect_ascending    its numbers go up, so the first that applies is the lowest
--   inspect_none         none applies exactly where none of 1 to 5 does, and the sheet passes
--   inspects_by          an answer that gives the lowest of 1 to 9 is what the inspector promises
--   passed_refused       so where it refuses
--   inspects_right       of a sheet that is right, passed is
--   inspects_unique      the inspector has one answer
--   passed_unique        and hands on one pair of sides
use Prim.Native.Nat.{ℕ}
use mathlib.Core.Path.{◌≡◌, sym, ◌∙◌}
use mathlib.Core.List.{List, ◌∷◌}
use mathlib.Core.Logic.{◌↔◌}
use mathlib.Core.Option.{none, some}
use native.Mathlib.Omega.{arith}
use Rattle.std.specs.Prelude.{Result, Ok, Err, IsOk}
use Rattle.kinds.specs.Edition.{Edition, Sized}
use Rattle.kinds.specs.Decisions.{sized?}
use Rattle.kinds.specs.First.{Reason, first_of, Ascending}
use Rattle.kinds.specs.Refusal.{said}
use Rattle.kinds.specs.declared.Refusal.{Refusal}
use Rattle.kinds.proofs.TruthLaws.{stable}
use Rattle.kinds.proofs.AnswerLaws.{done_none, none_done, said_same}
use Rattle.kinds.proofs.FirstLaws.{first_none, first_both}
use Rattle.order.specs.Table.{order_table}
use Rattle.order.proofs.TableLaws.{order_sound}
use Rattle.sheet.specs.Decisions.{well_formed?}
use Rattle.sheet.specs.Table.{broken_layout, sheet_lengths}
use Rattle.maps.specs.declared.Sides.{Sides}
use Rattle.maps.proofs.OpenLaws.{sides_unique}
use Rattle.promise.specs.Right.{Right}
use Rattle.realise.specs.Realises.{map_table, Realises}
use Rattle.realise.proofs.ExactLaws.{exact}
use Rattle.realise.proofs.BoundLaws.{read_stages_law}
use Rattle.inspect.specs.Tool.{inspect_table, Inspectable, Inspects, OpensPassed}

module _ (e : Edition) (n k : ℕ) (C s : List ℕ) where
  pub inspect_ascending : Ascending (inspect_table e n k C s)
  inspect_ascending = (omega arith, (omega arith, omega arith))

  abbrev first : List Reason
  first = order_table (Sized e n k) (sized? e n k) n C (sheet_lengths e s)

  abbrev rest : List Reason
  rest = broken_layout e n k s ∷ map_table e n k C s

  pub inspect_none : first_of (inspect_table e n k C s) ≡ none ↔ (Inspectable e n k C s × Realises e n k C s)
  inspect_none = (
    λ none_given.
        let (checked, judged) = (first_both first rest).0 none_given in
        let (sized, right, order) = (order_sound (sized? e n k) n C (sheet_lengths e s)).0 checked in
        let (layout, passes) = (first_none rest).0 judged in
        (record { sized = sized; order = order; places = right.0; formed = stable (well_formed? e n k s) layout }, record { none_applies = passes }),
    λ (whole, ok).
        (first_both first rest).1 (
          (order_sound (sized? e n k) n C (sheet_lengths e s)).1 (whole.sized, (whole.places, tt), whole.order),
          (first_none rest).1 (λ broken. broken whole.formed, ok.none_applies),
        ),
  )

module _ {e : Edition} {n k : ℕ} {C s : List ℕ} where
  whole_exact : Inspectable e n k C s → Realises e n k C s ↔ Right e n k C s
  whole_exact whole = exact (omega (arith, whole.sized.most)) whole.order whole.formed

  pub inspects_by : {A : Type 0} (r : Result A Refusal) → said r ≡ first_of (inspect_table e n k C s) → Inspects e n k C s r
  inspects_by r gives = record {
    is_first = gives;
    inspectable = λ done. (passed done).0;
    exact = λ whole. (
      λ done. (whole_exact whole).0 (passed done).1,
      λ right. none_done r (gives ∙ (inspect_none e n k C s).1 (whole, (whole_exact whole).1 right)),
    );
    stages = λ done. let (whole, ok) = passed done in read_stages_law (omega (arith, whole.sized.most)) whole.order whole.formed ok;
  }
    where
      passed : IsOk r → Inspectable e n k C s × Realises e n k C s
      passed done = (inspect_none e n k C s).0 (sym gives ∙ done_none r done)

  pub passed_refused : {x : Refusal} → some x ≡ first_of (inspect_table e n k C s) → OpensPassed e n k C s (Err x)
  passed_refused {x} gives = record { answer = inspects_by (Err x) gives; sides = tt }

  pub inspects_right : Inspectable e n k C s → Right e n k C s → Inspects {A = Unit} e n k C s (Ok tt)
  inspects_right whole right = inspects_by (Ok tt) (sym ((inspect_none e n k C s).1 (whole, (whole_exact whole).1 right)))

pub inspects_unique : {e : Edition} {n k : ℕ} {C s : List ℕ} (r q : Result Unit Refusal) → Inspects e n k C s r → Inspects e n k C s q → r ≡ q
inspects_unique r q i j = said_same r q (i.is_first ∙ sym j.is_first)

pub passed_unique : {e : Edition} {n k : ℕ} {C s : List ℕ} (r q : Result Sides Refusal) → OpensPassed e n k C s r → OpensPassed e n k C s q → r ≡ q
passed_unique {e} {n} {k} {s = s} r q a b = sides_unique e n k s r q (a.answer.is_first ∙ sym b.answer.is_first) a.sides b.sides
