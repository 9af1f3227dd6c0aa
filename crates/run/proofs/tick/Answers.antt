-- Past the check both sides are shown, and nothing is left but 11 to 14.
use Rattle.std.proofs.Common.{ℕ, List, Result, Ok, Err, sym}
use Rattle.kinds.specs.Edition.{edition1}
use Rattle.kinds.specs.declared.Refusal.{Refusal}
use Rattle.sheet.specs.Sheet.{write_side, read_side}
use Rattle.switches.specs.Cells.{M, N}
use Rattle.maps.specs.declared.Sides.{Sides}
use Rattle.lent.specs.Lent.{Lent, lengths_of}
use Rattle.call.specs.Tool.{Calls}
use Rattle.call.specs.declared.Ran.{Ran}
use Rattle.call.proofs.ToolLaws.{comes_past, comes_checked}
use Rattle.run.specs.Tool.{before_faults, ChecksRun, Runs}
use Rattle.run.proofs.TableLaws.{check_sound}
use Rattle.run.proofs.tick.Goals as goal

module _ (n k : ℕ) (s : List ℕ) (b : Lent) where
  ticks_checked : {x : Refusal} → ChecksRun edition1 n k s b.state (lengths_of b) (Err x) → Runs edition1 n k s b (record { answer = Err x; memory = b.memory; out = b.out })
  ticks_checked checks = comes_checked (before_faults edition1 n k s b) n k (M edition1 n k s) (N edition1 n k s) b checks.answer

  ticks_by : {o : Sides} {a : Result Ran Refusal} {words marks out : List ℕ} → ChecksRun edition1 n k s b.state (lengths_of b) (Ok o)
      → Calls edition1 n k o.write o.read b (record { answer = a; memory = record { words = words; marks = marks }; out = out })
      → Runs edition1 n k s b (record { answer = a; memory = record { words = words; marks = marks }; out = out })
  ticks_by checks calls =
      let (_, sound) = check_sound edition1 n k s b.state (lengths_of b) (sym checks.answer) in
      comes_past (before_faults edition1 n k s b) n k (M edition1 n k s) (N edition1 n k s) b _ (sym checks.answer) sound
      (calls.over (write_side edition1 n k s) (read_side edition1 n k s) checks.sides.write checks.sides.read)

pub returns-in-Err : goal.returns-in-Err
returns-in-Err c =
    let args = c.args in
    ticks_checked args.n args.k args.sheet.now
    (record { state = args.state; came = args.came.now; memory = record { words = args.words.now; marks = args.marks.now }; out = args.out.now })
    (rw c.in-Err.is at c.check-checked.ensures)

pub returns-in-Ok : goal.returns-in-Ok
returns-in-Ok c =
    let args = c.args in
    ticks_by args.n args.k args.sheet.now
    (record { state = args.state; came = args.came.now; memory = record { words = args.words.now; marks = args.marks.now }; out = args.out.now })
    (rw c.in-Ok.is at c.check-checked.ensures) c.call.ensures
