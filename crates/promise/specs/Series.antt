-- A series of calls, its frames, and when and where their words are due (01, 'One tick of the run'). Calls and frames are counted from 0.
--   IsCall k ws              what a call brings: "2^k words or none (a blank tick)", of 32 bits each
--   call_at S j               call j of S
--   Series k S               every call of S is one
--   words_before S j          how many words S brings before call j
--   word_in n S F i           word i of frame F: a frame is the next 2^n words that come. "Blank ticks inside a frame only pause it"
--   frame n S F              frame F
--   words_of_tick k l c        tick c of the frame l: its 2^k words, by port
--   CompletedIn n S F T      call T brings the last word of frame F
--   TickDue d n k S j        in call j a tick is due, tick c of a frame F: "a frame completed in call T leaves in calls T+1 to T+2^t, blank or not", or d calls later; 01 has no such delay, so d is 0 there
--   SamePattern S R          S and R have blank ticks at the same calls, and equally many words at the others
-- Where a word is due, if its frame is completed in call T, under an order that sends word i to place P i, with a delay of d calls:
--   due_call d k P T i        in the call in which its place's tick is due
--   due_port k P i            at its place's port
-- A series to look at:
--   one_frame n k u           a frame, whose word i is u i, tick by tick, and then as many blank ticks
use Rattle.std.specs.Prelude.{ℕ, suc, ◌+◌, ◌*◌, ◌^◌, ◌<◌, ◌≤◌, ◌≡◌, cond, ◌⊎◌, ltb, length, get_or, take}
use mathlib.Core.List.{List, [], flatten}
use Rattle.kinds.specs.Frame.{ticks, tick_of, port_of, word_at, in_order}
use Rattle.bits.specs.Image.{AllBelow}

pub record IsCall (k : ℕ) (ws : List ℕ) : Type 0 where
  pub count : (length ws ≡ 2 ^ k) ⊎ (length ws ≡ 0)
  pub words : AllBelow (2 ^ 32) ws

abbrev pub call_at : List (List ℕ) → ℕ → List ℕ
call_at S j = get_or S j []

abbrev pub Series : ℕ → List (List ℕ) → Type 0
Series k S = (j : ℕ) → j < length S → IsCall k (call_at S j)

abbrev pub words_before : List (List ℕ) → ℕ → ℕ
words_before S j = length (flatten (take j S))

abbrev pub word_in : ℕ → List (List ℕ) → ℕ → ℕ → ℕ
word_in n S F i = get_or (flatten S) (F * 2 ^ n + i) 0

abbrev pub frame : ℕ → List (List ℕ) → ℕ → List ℕ
frame n S F = in_order (2 ^ n) (word_in n S F)

abbrev pub words_of_tick : ℕ → List ℕ → ℕ → List ℕ
words_of_tick k l c = in_order (2 ^ k) (λ p. get_or l (word_at k c p) 0)

pub record CompletedIn (n : ℕ) (S : List (List ℕ)) (F T : ℕ) : Type 0 where
  pub reached : T < length S
  pub not_before : words_before S T < (F + 1) * 2 ^ n
  pub by_then : (F + 1) * 2 ^ n ≤ words_before S (suc T)

abbrev pub TickDue : ℕ → ℕ → ℕ → List (List ℕ) → ℕ → Type 0
TickDue d n k S j = (F : ℕ) × (T : ℕ) × (c : ℕ) × CompletedIn n S F T × (c < ticks n k) × (j ≡ d + (T + 1 + c))

pub record SamePattern (S R : List (List ℕ)) : Type 0 where
  pub calls : length S ≡ length R
  pub counts : (j : ℕ) → j < length S → length (call_at S j) ≡ length (call_at R j)

abbrev pub due_call : ℕ → ℕ → (ℕ → ℕ) → ℕ → ℕ → ℕ
due_call d k P T i = d + (T + 1 + tick_of k (P i))

abbrev pub due_port : ℕ → (ℕ → ℕ) → ℕ → ℕ
due_port k P i = port_of k (P i)

abbrev pub one_frame : ℕ → ℕ → (ℕ → ℕ) → List (List ℕ)
one_frame n k u = in_order (2 * ticks n k) (λ c. cond (ltb c (ticks n k)) (in_order (2 ^ k) (λ p. u (word_at k c p))) [])
