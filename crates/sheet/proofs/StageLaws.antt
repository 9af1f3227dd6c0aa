-- The stages of a side, one by one.
--   stages_length   the first m stages are m
--   stages_none, stages_snoc    there are no first 0 stages; one stage more
--   same_stages     places that show the same numbers have the same stages
--   each_of         the stages for some numbers all have Q when the stage for each of the numbers has
--   each_stage      the first m stages all have Q exactly when the stage at each place below m has
--   formed_stage    a stage of a side that keeps the layout is in range
use Prim.Native.Nat.{ℕ, zero, suc, ◌+◌, ◌*◌, ◌^◌, ◌<◌}
use mathlib.Core.Path.{◌≡◌, refl, ap₂}
use mathlib.Core.List.{List, [], ◌∷◌, ◌++◌, map}
use mathlib.Core.Logic.{◌↔◌}
use native.Mathlib.Omega.{arith}
use lib.ListN.{length, get_or}
use Rattle.kinds.specs.Edition.{Edition}
use Rattle.kinds.specs.Frame.{tick_bits, in_order}
use Rattle.kinds.proofs.FrameLaws.{in_order_length, in_order_same, in_order_snoc}
use Rattle.sheet.specs.Sheet.{count_place, stage_places, stage_at, stages_in}
use Rattle.sheet.specs.declared.Stage.{Stage}
use Rattle.sheet.specs.Layout.{StageInRange, EachStage, FormedSide}

pub stages_length : (m : ℕ) (l : List ℕ) → length (stages_in m l) ≡ m
unfolding stages_in
stages_length m l = in_order_length m (stage_at l)

pub stages_none : (l : List ℕ) → stages_in 0 l ≡ []
unfolding stages_in
stages_none l = refl

pub stages_snoc : (m : ℕ) (l : List ℕ) → stages_in (suc m) l ≡ stages_in m l ++ (stage_at l m ∷ [])
unfolding stages_in
stages_snoc m l = in_order_snoc m (stage_at l)

pub same_stages : (m : ℕ) (l r : List ℕ) → ((j : ℕ) → get_or l j 0 ≡ get_or r j 0) → stages_in m l ≡ stages_in m r
unfolding stages_in
same_stages m l r same =
    in_order_same m (stage_at l) (stage_at r) (λ s h. ap₂ (λ (d c : ℕ). record { direction = d; control = c }) (same (2 * s)) (same (2 * s + 1)))

module _ (Q : Stage → Type 0) where
  pub each_of : (stage : ℕ → Stage) (ps : List ℕ) → ((s : ℕ) → s < length ps → Q (stage (get_or ps s 0))) → EachStage Q (map stage ps)
  each_of stage [] each = tt
  each_of stage (p ∷ ps) each = (each 0 (omega arith), each_of stage ps (λ s h. each (suc s) (omega arith)))

  each_in_order : (m : ℕ) (f : ℕ → Stage) → EachStage Q (in_order m f) ↔ ((s : ℕ) → s < m → Q (f s))
  unfolding in_order
  each_in_order zero f = (λ e s h. absurd (omega arith), λ each. tt)
  each_in_order (suc m) f =
      let rest = each_in_order m (λ i. f (suc i)) in (
        λ (first, e) s. elim s as (λ s. s < suc m → Q (f s)) [ zero ↦ λ h. first | suc i ↦ λ h. rest.0 e i (omega arith) ],
        λ each. (each 0 (omega arith), rest.1 (λ s h. each (suc s) (omega arith))),
      )

  pub each_stage : (l : List ℕ) (m : ℕ) → EachStage Q (stages_in m l) ↔ ((s : ℕ) → s < m → Q (stage_at l s))
  unfolding stages_in
  each_stage l m = each_in_order m (stage_at l)

pub formed_stage : {e : Edition} {n k : ℕ} {l : List ℕ} → FormedSide e n k l
    → (s : ℕ) → s < count_place e l → StageInRange (2 ^ k) (2 ^ tick_bits n k) (stage_at (stage_places e l) s)
formed_stage {e} {n} {k} {l} formed = (each_stage (StageInRange (2 ^ k) (2 ^ tick_bits n k)) (stage_places e l) (count_place e l)).0 formed.used.stages
