-- Decisions of the meanings beside them. Each carries its proof, so none has to be read.
--   surplus? t ss           whether there are more stages than the rank of their tick-to-bank part
--   has_surplus? e n k s     whether a side of a sheet has such a surplus
use Rattle.std.specs.Prelude.{ℕ, List, length}
use Rattle.std.proofs.Math.Decide.{dec_lt}
use Rattle.kinds.specs.Decided.{either}
use Rattle.kinds.specs.Edition.{Edition}
use Rattle.kinds.specs.Frame.{tick_bits}
use Rattle.bits.specs.Image.{columns}
use Rattle.span.specs.Scan.{rank}
use Rattle.sheet.specs.Sheet.{write_side, read_side}
use Rattle.sheet.specs.declared.Stage.{Stage}
use Rattle.switches.specs.Surplus.{tick_part, Surplus, HasSurplus}

abbrev pub surplus? : (t : ℕ) (ss : List Stage) → Dec (Surplus t ss)
surplus? t ss = dec_lt (rank (columns t (tick_part ss))) (length ss)

abbrev pub has_surplus? : (e : Edition) (n k : ℕ) (s : List ℕ) → Dec (HasSurplus e n k s)
has_surplus? e n k s = either (surplus? (tick_bits n k) (write_side e n k s).stages) (surplus? (tick_bits n k) (read_side e n k s).stages)
