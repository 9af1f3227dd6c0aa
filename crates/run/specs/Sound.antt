-- When nothing is wrong with a call of the run that is lent the sheet s and b.
--   places_written e n k s b   the cells that the call writes, by port
--   places_read e n k s b      the cells that it reads
--   run_table e n k s b       1, 2, 5 and 10, and then 11 to 14
--   Sound e n k s b          nothing is wrong: neither sizes, lengths, sheet or state, nor any cell that the call writes or reads
use Rattle.std.specs.Prelude.{ℕ, List, ◌++◌}
use Rattle.kinds.specs.Edition.{Edition, Sized}
use Rattle.kinds.specs.Frame.{ticks}
use Rattle.kinds.specs.First.{Reason}
use Rattle.kinds.specs.Lengths.{RightLengths}
use Rattle.sheet.specs.Layout.{WellFormed}
use Rattle.sheet.specs.Table.{sheet_lengths}
use Rattle.switches.specs.Cells.{M, N}
use Rattle.state.specs.States.{Possible}
use Rattle.faults.specs.Faults.{Clash, SomeFilled, SomeEmpty}
use Rattle.faults.specs.Table.{faults}
use Rattle.call.specs.Call.{reads_of, writes_of}
use Rattle.lent.specs.Lent.{Lent, lengths_of, run_lengths}
use Rattle.run.specs.Tool.{before_faults}

module _ (e : Edition) (n k : ℕ) (s : List ℕ) (b : Lent) where
  abbrev pub places_written : List ℕ
  places_written = writes_of n k (M e n k s) b.state b.came

  abbrev pub places_read : List ℕ
  places_read = reads_of n k (N e n k s) b.state

  abbrev pub run_table : List Reason
  run_table = before_faults e n k s b ++ faults k places_written places_read b.memory.marks b.memory.marks

  pub record Sound : Type 0 where
    pub sized : Sized e n k
    pub right : RightLengths (sheet_lengths e s ++ run_lengths n k (lengths_of b))
    pub formed : WellFormed e n k s
    pub possible : Possible (ticks n k) b.state
    pub writes_apart : ¬ Clash k places_written
    pub writes_empty : ¬ SomeFilled b.memory.marks places_written
    pub reads_apart : ¬ Clash k places_read
    pub reads_filled : ¬ SomeEmpty b.memory.marks places_read
