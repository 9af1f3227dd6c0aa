-- A frame of two words is moved; a frame or a second buffer too short gives 2, whatever the column is.
use mathlib.Core.Path.{◌≡◌, refl}
use mathlib.Core.List.{[], ◌∷◌, map}
use native.Mathlib.Decide.{ℕ_discrete, dec_le}
use Rattle.kinds.specs.Edition.{edition1}
use Rattle.kinds.specs.Decisions.{sized_n?, right_lengths?}
use Rattle.kinds.specs.Decided.{some_below}
use Rattle.kinds.specs.Refusal.{given}
use Rattle.kinds.specs.First.{first_of}
use Rattle.bits.specs.Image.{image}
use Rattle.span.specs.Decisions.{independent?}
use Rattle.mover.specs.Tool.{mover_table}

refused_frames : map (λ (C, frame, out). given (first_of (mover_table edition1 1 C frame out))) (
    (1 ∷ [], 7 ∷ 8 ∷ [], 0 ∷ 0 ∷ []) ∷ (2 ∷ [], 7 ∷ [], 0 ∷ 0 ∷ []) ∷ (0 ∷ [], 7 ∷ 8 ∷ [], 0 ∷ []) ∷ []
    ) ≡ 0 ∷ 2 ∷ 2 ∷ []
unfolding image first_of sized_n? dec_le right_lengths? ℕ_discrete some_below independent?
refused_frames = refl
