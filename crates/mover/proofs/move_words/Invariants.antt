-- The place is that of word i, unless none is left, and each word before i stands at its own place.
use Rattle.std.proofs.Common.{ℕ, ◌^◌, ◌<◌, ◌≡◌, List, length, get_or}
use Rattle.order.specs.Order.{place}
use Rattle.mover.specs.Inside.{Steps, TwoFrames}
use Rattle.mover.proofs.move_words.Given as goal

pub record Moving (n : ℕ) (C f s g : List ℕ) (p i : ℕ) : Type 0 where
  pub frames : TwoFrames n C f g
  pub steps : Steps C s
  pub here : i < 2 ^ n → p ≡ place C i
  pub inside : i < 2 ^ n → p < length g
  pub each : (l : ℕ) → l < i → get_or g (place C l) 0 ≡ get_or f l 0

abbrev pub invariant-loop-i : goal.invariant-loop-i
invariant-loop-i l = Moving (length l.columns) l.columns l.frame l.steps l.out l.place l.i
