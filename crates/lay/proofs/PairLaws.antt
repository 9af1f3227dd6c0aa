-- Stages from as many directions as controls.
--   pairs_parts     their directions and controls are those
--   pairs_length    there are as many stages
--   pairs_least     where there are more of one, as many as of the other
--   pairs_range     units of port bits and of tick bits make stages in range
--   pairs_selected  what the stages make of a tick: the sum of the directions that its controls select
use Prim.Native.Nat.{ℕ, suc, ◌^◌, min}
use mathlib.Core.Path.{◌≡◌, refl, sym, ap, ap₂, ◌∙◌}
use mathlib.Core.List.{List, [], ◌∷◌}
use native.Mathlib.Omega.{arith}
use lib.ListN.{length, length-map}
use lib.Pow.{pow_pos, pow-lt}
use Rattle.bits.specs.Image.{image, AllBelow}
use Rattle.span.specs.Scan.{units}
use Rattle.span.specs.Rows.{dots}
use Rattle.sheet.specs.Layout.{StageInRange, EachStage}
use Rattle.switches.proofs.StageLaws.{directions, controls, selected}
use Rattle.lay.specs.Staged.{pairs}

pairs_parts : (ds cs : List ℕ) → length cs ≡ length ds → (directions (pairs ds cs) ≡ ds) × (controls (pairs ds cs) ≡ cs)
unfolding pairs
pairs_parts [] [] e = (refl, refl)
pairs_parts [] (c ∷ cs) e = absurd (omega arith)
pairs_parts (d ∷ ds) [] e = absurd (omega arith)
pairs_parts (d ∷ ds) (c ∷ cs) e =
    let rest = pairs_parts ds cs (omega arith) in (ap (λ (l : List ℕ). d ∷ l) rest.0, ap (λ (l : List ℕ). c ∷ l) rest.1)

pub pairs_length : (ds cs : List ℕ) → length cs ≡ length ds → length (pairs ds cs) ≡ length ds
pairs_length ds cs alike = sym (length-map (pairs ds cs) (λ s. s.direction)) ∙ ap length (pairs_parts ds cs alike).0

pub pairs_least : (ds cs : List ℕ) → length (pairs ds cs) ≡ min (length ds) (length cs)
unfolding pairs
pairs_least [] cs = omega arith
pairs_least (d ∷ ds) [] = omega arith
pairs_least (d ∷ ds) (c ∷ cs) = omega (arith, pairs_least ds cs)

pub pairs_range : (k t : ℕ) (is js : List ℕ) → AllBelow k is → AllBelow t js → EachStage (StageInRange (2 ^ k) (2 ^ t)) (pairs (units is) (units js))
unfolding pairs
pairs_range k t [] js ports ticks = tt
pairs_range k t (i ∷ is) [] ports ticks = tt
pairs_range k t (i ∷ is) (j ∷ js) ports ticks = (
  omega (arith, pow_pos i, pow-lt (ports 0 (omega arith)), pow_pos j, pow-lt (ticks 0 (omega arith))),
  pairs_range k t is js (λ l h. ports (suc l) (omega arith)) (λ l h. ticks (suc l) (omega arith)),
)

pub pairs_selected : (ds cs : List ℕ) → length cs ≡ length ds → (c : ℕ) → selected (pairs ds cs) c ≡ image ds (dots cs c)
pairs_selected ds cs e c = let (same_ds, same_cs) = pairs_parts ds cs e in ap₂ (λ (d q : List ℕ). image d (dots q c)) same_ds same_cs
