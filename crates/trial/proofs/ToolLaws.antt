-- What follows from the contract of a trial alone.
--   tries_unique      it has one answer, and leaves one sheet and one frame
use Prim.Native.Nat.{ℕ}
use mathlib.Core.Path.{◌≡◌, sym, ◌∙◌}
use mathlib.Core.List.{List}
use Rattle.std.specs.Prelude.{Result}
use Rattle.kinds.specs.Edition.{Edition}
use Rattle.kinds.specs.declared.Refusal.{Refusal}
use Rattle.kinds.proofs.AnswerLaws.{said_same, answers_same, answers_agree}
use Rattle.trial.specs.Trial.{Tries}

module _ (e : Edition) (n k : ℕ) (C s f : List ℕ) where
  pub tries_unique : (a b g h : List ℕ) (r q : Result Unit Refusal) → Tries e n k C s a f g r → Tries e n k C s b f h q → (r ≡ q) × ((a ≡ b) × (g ≡ h))
  tries_unique a b g h r q p o = (
    said_same r q (answers_same p o),
    answers_agree p o (λ l u w. (u.planned.constructed ∙ sym w.planned.constructed, u.frame ∙ sym w.frame)) (λ u w. (u.0 ∙ sym w.0, u.1 ∙ sym w.1)),
  )
