-- All are in range exactly when each is.
use Rattle.std.proofs.Common.{ℕ, zero, suc, ◌^◌, ◌<◌, Bool, true, false, List, [], ◌∷◌, length, MatchBool, arith, rules}
use Rattle.std.specs.List.{AllWithin, HoldsAt}
use Rattle.std.proofs.lemmas.Iterator.{cases_from_all, YieldsList-from_slice}
use Rattle.kinds.specs.Answers.{Says}
use Rattle.kinds.specs.Frame.{tick_bits}
use Rattle.kinds.proofs.TruthLaws.{says_yes, says_no}
use Rattle.sheet.specs.declared.Stage.{Stage}
use Rattle.sheet.specs.Layout.{StageInRange, EachStage}
use Rattle.plan.proofs.in_range.Goals as goal

module _ (Q : Stage → Type 0) where
  each : (ss : List Stage) → AllWithin Q ss 0 (length ss) → EachStage Q ss
  each [] at = tt
  each (s ∷ ss) at = (at 0 s (omega arith) (omega arith), each ss (λ i d l h. at (suc i) d (omega arith) (omega arith)))

  one : (ss : List Stage) (i : ℕ) → i < length ss → HoldsAt (λ s. ¬ Q s) ss i → ¬ EachStage Q ss
  one [] i h out e = omega arith
  one (s ∷ ss) zero h out e = out s e.0
  one (s ∷ ss) (suc i) h out e = one ss i (omega arith) out e.1

  answered : (b : Bool) (ss : List Stage) → MatchBool b (AllWithin Q ss 0 (length ss)) ((i : ℕ) × (i < length ss) × HoldsAt (λ s. ¬ Q s) ss i) → Says b (EachStage Q ss)
  answered true ss at = says_yes (each ss at)
  answered false ss (i, h, out) = says_no (one ss i h out)

pub returns : goal.returns
returns c =
    let ss = c.args.stages.now in
    let Q : Stage → Type 0 = StageInRange (2 ^ c.args.sizes.k) (2 ^ tick_bits c.args.sizes.n c.args.sizes.k) in
    answered Q c.all.result ss (cases_from_all _ _ _ Q (λ s. ¬ Q s) c.all.ensures.ran (YieldsList-from_slice ss cc) (λ x q k. search rules) (λ x q k. search rules))
