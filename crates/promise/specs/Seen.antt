-- What a caller sees of a run, call by call, and when that is right, in the same terms for every run, whatever its state and its memory.
-- o j is what is seen of call j of the series S; P F is the order of frame F, and d the calls by which frames leave later than in 01.
--   Seen                      what is seen of a call: its refusal, if one is given; whether a tick was handed out; and its words, by port
--   IsFault r                 the refusal r, if there is one, is 11, 12, 13 or 14
--   Leaves o p w              a tick is handed out, with the word w at port p
--   LeaveDue d n k P o S      "each word of a completed frame leaves at its due tick and place", if the series reaches that call
--   RightOver d n k P o S     no call is a fault, and words leave when and where they are due
--   if_successful r m          the number m, where the call gives no refusal r; else 0
--   words_taken o S j, words_handed o j      "words taken in" and "words handed out, over the successful calls" before call j
use Rattle.std.specs.Prelude.{ℕ, zero, suc, ◌+◌, ◌^◌, ◌<◌, ◌≤◌, ◌≡◌, Bool, true, List, length, get_or}
use Rattle.std.proofs.Math.Option.{Option, none, some}
use Rattle.kinds.specs.Refusal.{given}
use Rattle.kinds.specs.declared.Refusal.{Refusal}
use Rattle.promise.specs.Series.{call_at, word_in, CompletedIn, due_call, due_port}

pub record Seen : Type 0 where
  pub refusal : Option Refusal
  pub handed : Bool
  pub leaving : List ℕ

abbrev pub IsFault : Option Refusal → Type 0
IsFault r = (11 ≤ given r) × (given r ≤ 14)

pub record Leaves (o : Seen) (p w : ℕ) : Type 0 where
  pub handed : o.handed ≡ true
  pub port : p < length o.leaving
  pub word : get_or o.leaving p 0 ≡ w

abbrev pub LeaveDue : ℕ → ℕ → ℕ → (ℕ → ℕ → ℕ) → (ℕ → Seen) → List (List ℕ) → Type 0
LeaveDue d n k P o S =
    (F T i j : ℕ) → CompletedIn n S F T → i < 2 ^ n → j ≡ due_call d k (P F) T i → j < length S → Leaves (o j) (due_port k (P F) i) (word_in n S F i)

pub record RightOver (d n k : ℕ) (P : ℕ → ℕ → ℕ) (o : ℕ → Seen) (S : List (List ℕ)) : Type 0 where
  pub no_fault : (j : ℕ) → j < length S → ¬ IsFault (o j).refusal
  pub leaves : LeaveDue d n k P o S

abbrev pub if_successful : Option Refusal → ℕ → ℕ
if_successful none m = m
if_successful (some x) m = 0

unfoldable pub words_taken : (ℕ → Seen) → List (List ℕ) → ℕ → ℕ
words_taken o S zero = 0
words_taken o S (suc j) = words_taken o S j + if_successful (o j).refusal (length (call_at S j))

unfoldable pub words_handed : (ℕ → Seen) → ℕ → ℕ
words_handed o zero = 0
words_handed o (suc j) = words_handed o j + if_successful (o j).refusal (length (o j).leaving)
