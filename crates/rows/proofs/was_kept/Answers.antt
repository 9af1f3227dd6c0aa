-- A mask has 16 bits, and so has no number from 16 on a mask that is its own.
use Rattle.std.proofs.Common.{ℕ, ◌≤◌, ◌<◌, ◌^◌, ◌≡◌, ◌⊎◌, inl, inr, false, List, length, get_or, ◌∙◌, arith, pow_pos, pow_mono}
use borrow.Author.Tests.{lt-leb, le-ltb}
use lib.ListN.{get_or-eq_default}
use Rattle.rows.specs.Listed.{kept_in}
use Rattle.rows.proofs.was_kept.Goals as goal
use Rattle.rows.proofs.was_kept.Goals.{then-i-lt-WIDTH, else-i-lt-WIDTH}

none_there : (ms : List ℕ) (i : ℕ) → get_or ms i 0 < 2 ^ 16 → (i < 16 × length ms ≤ i) ⊎ (16 ≤ i) → kept_in ms i ≡ false
none_there ms i small (inl after) = lt-leb (2 ^ i) (get_or ms i 0) (omega (arith, pow_pos i, get_or-eq_default ms 0 after.1))
none_there ms i small (inr beyond) = lt-leb (2 ^ i) (get_or ms i 0) (omega (arith, small, pow_mono {i = 16} {j = i} beyond))

pub returns-else-i-masks : goal.returns-else-i-masks
returns-else-i-masks c =
    let i = c.args.i in
    rw (none_there c.args.masks.now i (c.type_inv.masks i).fits c.if-i-masks.either) (elim c.if-i-lt-WIDTH.branch [
      | then-i-lt-WIDTH w ↦ w.t-4-is ∙ le-ltb i (length c.args.masks.now) (omega arith)
      | else-i-lt-WIDTH w ↦ w.t-4-is ∙ le-ltb i 16 w.if-i-lt-WIDTH.false
    ])
