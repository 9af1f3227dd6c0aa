-- What the run answers.
--   sheet_call_sound               where a call with a sheet is not refused, nothing was wrong
--   sheet_call_possible            so after it the state is possible, whatever the sheet
--   sheet_call_filled              and the filled marks have grown by the words that came, 2^k or none, and shrunk by those that were handed out, 2^k or none
--   ticks_idle                     where no tick is handed out, the out buffer is as it came
--   ticks_unique                   the run has one answer, and leaves one memory and one out buffer
--   checks_run_unique              the check that a run begins with has one answer, and hands on one pair of sides
use Prim.Native.Nat.{ℕ, ◌+◌, ◌^◌, ◌≤◌}
use mathlib.Core.Path.{◌≡◌, sym, ap, ◌∙◌}
use mathlib.Core.Bool.{false, cond}
use mathlib.Core.List.{List}
use mathlib.Core.Option.{none}
use native.Mathlib.Omega.{arith}
use lib.ListN.{length}
use Rattle.std.specs.Prelude.{Result}
use Rattle.kinds.specs.Answers.{over_front}
use Rattle.kinds.specs.Edition.{Edition}
use Rattle.kinds.specs.Frame.{ticks}
use Rattle.kinds.specs.First.{Reason}
use Rattle.kinds.specs.declared.Refusal.{Refusal}
use Rattle.kinds.specs.Lengths.{or_none, IsLength}
use Rattle.maps.specs.declared.Sides.{Sides}
use Rattle.maps.proofs.OpenLaws.{sides_unique}
use Rattle.switches.specs.Cells.{M, N}
use Rattle.switches.proofs.CellLaws.{cell_into}
use Rattle.state.specs.States.{Possible}
use Rattle.state.specs.declared.State.{State}
use Rattle.memory.specs.Memory.{filled_marks}
use Rattle.call.specs.Call.{Outcome}
use Rattle.lent.specs.Lent.{Lent}
use Rattle.lent.specs.declared.Lengths.{Lengths}
use Rattle.call.specs.Tool.{After, handed_out}
use Rattle.call.proofs.CallLaws.{call_given, call_idle, call_possible, call_filled}
use Rattle.call.proofs.ToolLaws.{comes_unique}
use Rattle.run.specs.Tool.{ChecksRun, before_faults, sheet_call, Runs}
use Rattle.run.specs.Sound.{Sound}
use Rattle.run.proofs.TableLaws.{run_sound}

module _ (e : Edition) (n k : ℕ) (s : List ℕ) (b : Lent) where
  abbrev before : List Reason
  before = before_faults e n k s b

  abbrev sheet_call_law : Outcome
  sheet_call_law = sheet_call e n k s b

  module _ (ok : sheet_call_law.refusal ≡ none) where
    pub sheet_call_sound : Sound e n k s b
    sheet_call_sound = (run_sound e n k s b).0 (sym (call_given before n k (M e n k s) (N e n k s) b.state b.came b.memory) ∙ ok)

    pub sheet_call_possible : Possible (ticks n k) sheet_call_law.state
    sheet_call_possible = call_possible before n k (M e n k s) (N e n k s) b.state b.came b.memory ok sheet_call_sound.possible

    pub sheet_call_filled : (filled_marks sheet_call_law.memory.marks + cond sheet_call_law.handed (2 ^ k) 0 ≡ filled_marks b.memory.marks + length b.came)
        × IsLength (length b.came) (or_none (2 ^ k))
    sheet_call_filled =
        let sound = sheet_call_sound in
        let (_, (came, (_, (_, (marks, _))))) = sound.right in
        let within : k ≤ n = omega (arith, sound.sized.most) in (
          call_filled before n k (M e n k s) (N e n k s) b.state b.came b.memory ok (cell_into sound.formed.write.used within)
              (cell_into sound.formed.read.used within) sound.possible.half marks came,
          came,
        )

  pub ticks_idle : (l : After) → Runs e n k s b l → handed_out l.answer ≡ false → l.out ≡ b.out
  ticks_idle l c idle =
      c.buffer ∙ ap (λ (x : List ℕ). over_front x b.out) (call_idle before n k (M e n k s) (N e n k s) b.state b.came b.memory (sym c.handed ∙ idle))

  pub ticks_unique : {l r : After} → Runs e n k s b l → Runs e n k s b r → l ≡ r
  ticks_unique x y = comes_unique x y

pub checks_run_unique : {e : Edition} {n k : ℕ} {s : List ℕ} {st : State} {l : Lengths} (r q : Result Sides Refusal) → ChecksRun e n k s st l r → ChecksRun e n k s st l q → r ≡ q
checks_run_unique {e} {n} {k} {s} r q a b = sides_unique e n k s r q (a.answer ∙ sym b.answer) a.sides b.sides
