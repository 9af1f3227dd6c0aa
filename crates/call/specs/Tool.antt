-- A call as a tool: what it leaves, and what is answered.
--   After                  what it leaves: the answer, and the memory and the out buffer afterwards
--   state_after st a        the state after a call that was answered a: on a refusal it stays as it came
--   handed_out a            whether a says that a tick was handed out
--   ComesOf o b l          what is left, l, is the outcome o of a call that was lent b
--   Calls e n k w r b l    the tool: where 1, 2 or 10 applies, l is what comes of that refusal, and on any refusal everything lent is as it came, whatever w and r are; and l is what comes of a call
--                          over the cells of whichever sides w and r show
use Rattle.std.specs.Prelude.{ℕ, ◌≡◌, Bool, false, List, Result, Ok, Err}
use Rattle.std.proofs.Math.Option.{some}
use Rattle.kinds.specs.Answers.{over_front}
use Rattle.kinds.specs.Edition.{Edition}
use Rattle.kinds.specs.First.{first_of}
use Rattle.kinds.specs.Refusal.{said}
use Rattle.kinds.specs.declared.Refusal.{Refusal}
use Rattle.sheet.specs.Sheet.{Side}
use Rattle.switches.specs.Cells.{cell_of}
use Rattle.maps.specs.Opened.{Shows}
use Rattle.maps.specs.declared.OpenSide.{OpenSide}
use Rattle.state.specs.declared.State.{State}
use Rattle.memory.specs.Memory.{Memory}
use Rattle.lent.specs.Lent.{Lent, lengths_of, call_table}
use Rattle.call.specs.Call.{Outcome, refused, call}
use Rattle.call.specs.declared.Ran.{Ran}

pub record After : Type 0 where
  pub answer : Result Ran Refusal
  pub memory : Memory
  pub out : List ℕ

abbrev pub state_after : State → Result Ran Refusal → State
state_after st (Ok ran) = ran.state
state_after st (Err x) = st

abbrev pub handed_out : Result Ran Refusal → Bool
handed_out (Ok ran) = ran.handed
handed_out (Err x) = false

pub record ComesOf (o : Outcome) (b : Lent) (l : After) : Type 0 where
  pub refusal : said l.answer ≡ o.refusal
  pub state : state_after b.state l.answer ≡ o.state
  pub handed : handed_out l.answer ≡ o.handed
  pub memory : l.memory ≡ o.memory
  pub buffer : l.out ≡ over_front o.leaving b.out

pub record Calls (e : Edition) (n k : ℕ) (w r : OpenSide) (b : Lent) (l : After) : Type 0 where
  pub before : (x : Refusal) → first_of (call_table e n k b.state (lengths_of b)) ≡ some x → ComesOf (refused x b.state b.memory) b l
  pub over : (W R : Side) → Shows n k w W → Shows n k r R
      → ComesOf (call (call_table e n k b.state (lengths_of b)) n k (cell_of k W) (cell_of k R) b.state b.came b.memory) b l
  pub as_it_came : (x : Refusal) → said l.answer ≡ some x → (l.memory ≡ b.memory) × (l.out ≡ b.out)
