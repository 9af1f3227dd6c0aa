-- Decisions of what this crate's meanings state. Each carries its proof, so none has to be read.
--   all_below? b C    whether each column of C is below b
use Rattle.std.specs.Prelude.{ℕ, List, length, get_or}
use Rattle.std.proofs.Math.Decide.{dec_lt}
use Rattle.kinds.specs.Decided.{each_below}
use Rattle.bits.specs.Image.{AllBelow}

unfoldable pub all_below? : (b : ℕ) (cs : List ℕ) → Dec (AllBelow b cs)
unfolding each_below
all_below? b cs = each_below (λ j. dec_lt (get_or cs j 0) b) (length cs)
