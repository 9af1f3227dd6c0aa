-- More stages than there is use for (02, R-10, "no idle stages").
--   tick_part ss c           the tick-to-bank part of the stages ss: the bank at tick c of port 0, which the wiring sends to bank 0
--   Surplus t ss            there are "more stages than the rank of its tick-to-bank part", where ticks have t bits
--   HasSurplus e n k s      "either side" of the sheet s has such a surplus
use Rattle.std.specs.Prelude.{ℕ, ◌<◌, List, ◌⊎◌, length}
use Rattle.kinds.specs.Edition.{Edition}
use Rattle.kinds.specs.Frame.{tick_bits}
use Rattle.bits.specs.Image.{columns}
use Rattle.span.specs.Scan.{rank}
use Rattle.sheet.specs.Sheet.{write_side, read_side}
use Rattle.sheet.specs.declared.Stage.{Stage}
use Rattle.switches.specs.Stages.{bank_after}

abbrev pub tick_part : List Stage → ℕ → ℕ
tick_part ss c = bank_after ss c 0

abbrev pub Surplus : ℕ → List Stage → Type 0
Surplus t ss = rank (columns t (tick_part ss)) < length ss

abbrev pub HasSurplus : Edition → ℕ → ℕ → List ℕ → Type 0
HasSurplus e n k s = Surplus (tick_bits n k) (write_side e n k s).stages ⊎ Surplus (tick_bits n k) (read_side e n k s).stages
