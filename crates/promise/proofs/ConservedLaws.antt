-- "Words taken in, less words handed out, over the successful calls, equal the filled marks" (01, 'One tick of the run').
--   Fair o m ws      of a call that brought ws to the memory m, and of which o came: the memory has its places, and the filled marks grew by the words taken in, and shrank by those handed out
--   call_fair        a call is fair, if it is where it is not refused
--   conserved_by     a run of fair calls conserves words
--   lent_by          and its memory keeps its places
use Prim.Native.Nat.{ℕ, zero, suc, ◌+◌, ◌^◌}
use mathlib.Core.Path.{◌≡◌, refl, ◌∙◌}
use mathlib.Core.Bool.{cond}
use mathlib.Core.List.{List}
use mathlib.Core.Option.{Option, none, some}
use native.Mathlib.Omega.{arith}
use lib.ListN.{length}
use Rattle.kinds.specs.First.{Reason}
use Rattle.kinds.specs.declared.Refusal.{Refusal}
use Rattle.sheet.specs.Layout.{AllZero}
use Rattle.state.specs.declared.State.{State}
use Rattle.faults.proofs.MarkLaws.{put_length}
use Rattle.memory.specs.Memory.{Memory, filled_marks}
use Rattle.memory.proofs.CountLaws.{zero_marks}
use Rattle.call.specs.Call.{Outcome, call}
use Rattle.call.proofs.CallLaws.{call_refused, call_done, call_leaving}
use Rattle.promise.specs.Series.{call_at}
use Rattle.promise.specs.Seen.{if_successful, words_taken, words_handed}
use Rattle.promise.specs.Run.{Stand, standing}
use Rattle.promise.specs.Answered.{stands, outcome_at, seen_at}

pub record Fair (o : Outcome) (m : Memory) (ws : List ℕ) : Type 0 where
  pub words : length o.memory.words ≡ length m.words
  pub marks : length o.memory.marks ≡ length m.marks
  pub filled : filled_marks m.marks + if_successful o.refusal (length ws) ≡ filled_marks o.memory.marks + if_successful o.refusal (length o.leaving)

module _ (t : List Reason) (n k : ℕ) (f g : ℕ → ℕ) (st : State) (ws : List ℕ) (m : Memory) where
  abbrev this : Outcome
  this = call t n k f g st ws m

  pub call_fair : (this.refusal ≡ none → filled_marks this.memory.marks + cond this.handed (2 ^ k) 0 ≡ filled_marks m.marks + length ws) → Fair this m ws
  call_fair counted = go this.refusal refl
    where
      go : (o : Option Refusal) → this.refusal ≡ o → Fair this m ws
      go none ok =
          let done = call_done t n k f g st ws m ok in
          record {
            words = rw done (put_length _ _ _);
            marks = rw done (put_length _ _ _ ∙ put_length _ _ _);
            filled = rw ok (omega (arith, counted ok, call_leaving t n k f g st ws m));
          }
      go (some x) given = rw (call_refused t n k f g st ws m given) (record { words = refl; marks = refl; filled = refl })

module _ (made : ℕ → Stand → Outcome) (x : Stand) (S : List (List ℕ)) (fair : (j : ℕ) → Fair (outcome_at made x j) (stands made x j).memory (call_at S j)) where
  pub conserved_by : AllZero x.memory.marks → (j : ℕ) → words_taken (seen_at made x) S j ≡ filled_marks (stands made x j).memory.marks + words_handed (seen_at made x) j
  unfolding standing words_taken words_handed
  conserved_by zeros zero = omega (arith, zero_marks x.memory.marks zeros)
  conserved_by zeros (suc j) = omega (arith, conserved_by zeros j, (fair j).filled)

  pub lent_by : (j : ℕ) → (length (stands made x j).memory.words ≡ length x.memory.words) × (length (stands made x j).memory.marks ≡ length x.memory.marks)
  unfolding standing
  lent_by zero = (refl, refl)
  lent_by (suc j) = ((fair j).words ∙ (lent_by j).0, (fair j).marks ∙ (lent_by j).1)
