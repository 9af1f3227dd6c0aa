-- One call of the run (01, 'One tick of the run'), over any two maps of words to cells: f says where words are written, g where they are read. A sheet's are M and N.
-- st is the state, ws the words that came, none of them on a blank tick, m the memory.
--   place_in n h x               the place of cell x of half h: "half h is places h*2^n onward, by cell number"
--   places_of n k f h c          the places in half h of the words of tick c at f, by port
--   reads_of n k g st            "if r < 2^t, the 2^k cells of half 1 - h at N are read out and emptied"
--   writes_of n k f st ws        "if words came, they go to half h at M"
--   access_of n k f g st ws      what the call does to the memory
--   Outcome                     what comes of a call: the refusal, if one is given; the state; whether a tick was handed out, and its words, by port; the memory
--   carried_out n k f g st ws m  what comes of it where nothing is refused
--   refused x st m              what comes of it where the refusal x is given: state and memory as they came, and nothing handed out
--   call_or o n k f g st ws m    what comes of it where the refusal o is given, or none is
--   call t n k f g st ws m      a call: the first that applies of the reasons of t and then of 11 to 14, and what comes of it. 12 is judged on the marks as they came
use Rattle.std.specs.Prelude.{ℕ, ◌+◌, ◌-◌, ◌*◌, ◌^◌, Bool, false, cond, List, [], ◌∷◌, ◌++◌}
use Rattle.std.proofs.Math.Option.{Option, none, some}
use Rattle.kinds.specs.Frame.{ticks, word_at, in_order}
use Rattle.kinds.specs.First.{Reason, first_of}
use Rattle.kinds.specs.declared.Refusal.{Refusal}
use Rattle.state.specs.States.{reading, next}
use Rattle.state.specs.declared.State.{State}
use Rattle.faults.specs.Table.{faults}
use Rattle.memory.specs.Memory.{Memory, Access, words_at, served}

abbrev pub place_in : ℕ → ℕ → ℕ → ℕ
place_in n h x = h * 2 ^ n + x

abbrev pub places_of : ℕ → ℕ → (ℕ → ℕ) → ℕ → ℕ → List ℕ
places_of n k f h c = in_order (2 ^ k) (λ p. place_in n h (f (word_at k c p)))

abbrev pub reads_of : ℕ → ℕ → (ℕ → ℕ) → State → List ℕ
reads_of n k g st = cond (reading (ticks n k) st) (places_of n k g (1 - st.h) st.r) []

abbrev pub writes_of : ℕ → ℕ → (ℕ → ℕ) → State → List ℕ → List ℕ
writes_of n k f st [] = []
writes_of n k f st (w ∷ ws) = places_of n k f st.h st.a

abbrev pub access_of : ℕ → ℕ → (ℕ → ℕ) → (ℕ → ℕ) → State → List ℕ → Access
access_of n k f g st ws = record { writes = writes_of n k f st ws; words = ws; reads = reads_of n k g st }

pub record Outcome : Type 0 where
  pub refusal : Option Refusal
  pub state : State
  pub handed : Bool
  pub leaving : List ℕ
  pub memory : Memory

abbrev pub carried_out : ℕ → ℕ → (ℕ → ℕ) → (ℕ → ℕ) → State → List ℕ → Memory → Outcome
carried_out n k f g st ws m = record {
  refusal = none;
  state = next (ticks n k) st ws;
  handed = reading (ticks n k) st;
  leaving = words_at (reads_of n k g st) m.words;
  memory = served (access_of n k f g st ws) m;
}

abbrev pub refused : Refusal → State → Memory → Outcome
refused x st m = record { refusal = some x; state = st; handed = false; leaving = []; memory = m }

abbrev pub call_or : Option Refusal → ℕ → ℕ → (ℕ → ℕ) → (ℕ → ℕ) → State → List ℕ → Memory → Outcome
call_or none n k f g st ws m = carried_out n k f g st ws m
call_or (some x) n k f g st ws m = refused x st m

abbrev pub call : List Reason → ℕ → ℕ → (ℕ → ℕ) → (ℕ → ℕ) → State → List ℕ → Memory → Outcome
call t n k f g st ws m = call_or (first_of (t ++ faults k (writes_of n k f st ws) (reads_of n k g st) m.marks m.marks)) n k f g st ws m
