-- A row that is left is that of no sum; where only a mask is left, that is the number's.
use Rattle.std.proofs.Common.{ℕ, ◌*◌, ◌^◌, ◌≤◌, ◌<◌, List, Some, None, refl, ap}
use lib.Bits.{xor_shifted}
use Rattle.span.specs.Held.{width, MadeOf, Holds, Reduces}
use Rattle.span.specs.Tools.{Asks}
use Rattle.span.specs.declared.Scan.{Scan}
use Rattle.span.proofs.HeldLaws.{row_left, no_sum, made_up, mask_old, entry}
use Rattle.span.proofs.Scan.mask_of.Goals as goal

module _ {scan : Scan} {v left : ℕ} (reduced : Reduces scan.entries (v * 2 ^ width) left) where
  asks_none : 2 ^ width ≤ left → Asks scan v None
  asks_none long = record {
    sum = λ vs h s.
        let e = h.echelon in absurd (no_sum v left e (reduced.made vs e) (row_left long) (reduced.stuck vs e (row_left long)) s);
    no_sum = λ vs h n. refl;
  }

  asks_mask : left < 2 ^ width → Asks scan v (Some left)
  asks_mask short = record {
    sum = λ vs h s. ap Some (mask_old v short (made vs h));
    no_sum = λ vs h n. absurd (n (made_up v short (made vs h)));
  }
    where
      made : (vs : List ℕ) → Holds scan vs → MadeOf vs (entry v left)
      made vs h = rw (xor_shifted v width left short) at (reduced.made vs h.echelon)

pub returns-then-left-ge65536 : goal.returns-then-left-ge65536
returns-then-left-ge65536 c = asks_none (rw c.from.ensures at c.reduce-left.ensures) c.if-left-ge65536.true

pub returns : goal.returns
returns c = asks_mask (rw c.from.ensures at c.reduce-left.ensures) c.if-left-ge65536.false
