-- Where a byte stands there, something comes after.
use Rattle.std.proofs.Common.{ℕ, drop-cons}
use Rattle.text.proofs.ending.Goals as goal

pub returns-then-after-card : goal.returns-then-after-card
returns-then-after-card c = rw (drop-cons {A = ℕ} _ _ 0 c.if-after-card.true)
