-- The run as a tool over a series of calls, with the sheet s, and what is promised of it (01, 'One tick of the run').
--   tool_call e n k s S out j y       call j of the series S, made from y; out j is the out buffer that is lent
--   ToolRun n k             a run from fresh: where it starts, the series of its calls, and the out buffers, of 2^k places each
--   stand_in e n k s R j     where it stands before call j
--   seen_in e n k s R j      what is seen of that call
--   RightAsTool e n k C s   every such run is right for the order C by what is seen: "for demand 3 a call of the series that is answered 11 to 14 counts as the clash, overwriting or empty read it names"
--   Conserves e n k s       "words taken in, less words handed out, over the successful calls, equal the filled marks", before each call
--   HandsOutWhenDue e n k s     "a frame completed in call T leaves in calls T+1 to T+2^t, blank or not", and in no other call a tick is handed out
--   FramesAlone e n k s     "two runs from fresh with the same pattern of calls and the same words in frame f hand out the same words for frame f, whatever the other frames held"
use Rattle.std.specs.Prelude.{ℕ, ◌+◌, ◌^◌, ◌<◌, ◌≡◌, List, length}
use Rattle.kinds.specs.Answers.{Says}
use Rattle.kinds.specs.Edition.{Edition}
use Rattle.kinds.specs.Frame.{ticks}
use Rattle.order.specs.Order.{place}
use Rattle.memory.specs.Memory.{filled_marks}
use Rattle.call.specs.Call.{Outcome}
use Rattle.run.specs.Tool.{sheet_call}
use Rattle.promise.specs.Series.{Series, call_at, frame, CompletedIn, TickDue, SamePattern}
use Rattle.promise.specs.Seen.{Seen, RightOver, words_taken, words_handed}
use Rattle.promise.specs.Run.{Stand, Fresh}
use Rattle.promise.specs.Answered.{seen_at, stands}

abbrev pub tool_call : Edition → ℕ → ℕ → List ℕ → List (List ℕ) → (ℕ → List ℕ) → ℕ → Stand → Outcome
tool_call e n k s S out j y = sheet_call e n k s (record { state = y.state; came = call_at S j; memory = y.memory; out = out j })

pub record ToolRun (n k : ℕ) : Type 0 where
  pub start : Stand
  pub calls : List (List ℕ)
  pub out : ℕ → List ℕ
  pub fresh : Fresh n k start
  pub series : Series k calls
  pub room : (j : ℕ) → j < length calls → length (out j) ≡ 2 ^ k

module _ (e : Edition) (n k : ℕ) (s : List ℕ) where
  abbrev pub stand_in : ToolRun n k → ℕ → Stand
  stand_in R = stands (tool_call e n k s R.calls R.out) R.start

  abbrev pub seen_in : ToolRun n k → ℕ → Seen
  seen_in R = seen_at (tool_call e n k s R.calls R.out) R.start

  abbrev pub Conserves : Type 0
  Conserves = (R : ToolRun n k) (j : ℕ) → words_taken (seen_in R) R.calls j ≡ filled_marks (stand_in R j).memory.marks + words_handed (seen_in R) j

  abbrev pub HandsOutWhenDue : Type 0
  HandsOutWhenDue = (R : ToolRun n k) (j : ℕ) → j < length R.calls → Says (seen_in R j).handed (TickDue 0 n k R.calls j)

  abbrev pub FramesAlone : Type 0
  FramesAlone = (R Q : ToolRun n k) (F T c : ℕ) → SamePattern R.calls Q.calls → frame n R.calls F ≡ frame n Q.calls F → CompletedIn n R.calls F T
      → c < ticks n k → T + 1 + c < length R.calls → (seen_in R (T + 1 + c)).leaving ≡ (seen_in Q (T + 1 + c)).leaving

pub record RightAsTool (e : Edition) (n k : ℕ) (C s : List ℕ) : Type 0 where
  pub over : (R : ToolRun n k) → RightOver 0 n k (λ F. place C) (seen_in e n k s R) R.calls
