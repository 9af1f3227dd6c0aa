-- Laws of a call.
--   call_given       the refusal of a call is what its table gives
--   call_refused     a refused call changes nothing
--   call_done        a call that is not refused is carried out
--   call_past        reasons that give nothing change nothing
--   call_leaving     a call that hands out a tick hands out 2^k words, and any other none
--   call_idle        so one that hands out no tick hands out no words
--   call_possible    after a call that is not refused a possible state is possible
--   call_filled      and the filled marks have grown by the words that came, 2^k or none, and shrunk by those that were handed out, 2^k or none
use Prim.Native.Nat.{ℕ, ◌+◌, ◌^◌, ◌<◌}
use mathlib.Core.Path.{◌≡◌, refl, sym, ap, ◌∙◌}
use mathlib.Core.Bool.{Bool, false, cond}
use mathlib.Core.List.{List, [], ◌++◌}
use mathlib.Core.Option.{Option, none, some}
use native.Mathlib.Omega.{arith}
use lib.ListN.{length, get_or, length-map}
use Rattle.kinds.specs.Frame.{ticks}
use Rattle.kinds.specs.First.{Reason, first_of}
use Rattle.kinds.specs.declared.Refusal.{Refusal}
use Rattle.kinds.proofs.FirstLaws.{first_none, first_append, first_both}
use Rattle.kinds.specs.Lengths.{or_none, IsLength}
use Rattle.bits.specs.Image.{AllBelow}
use Rattle.state.specs.States.{Possible}
use Rattle.state.specs.declared.State.{State}
use Rattle.state.proofs.StateLaws.{next_possible}
use Rattle.faults.specs.Table.{faults}
use Rattle.faults.proofs.FaultLaws.{apart}
use Rattle.memory.specs.Memory.{Memory, filled_marks}
use Rattle.memory.proofs.CountLaws.{served_filled}
use Rattle.call.specs.Call.{reads_of, writes_of, access_of, Outcome, carried_out, refused, call_or, call}
use Rattle.call.proofs.PlaceLaws.{nothing, reads_length, writes_length, reads_below, writes_below}

module _ (t : List Reason) (n k : ℕ) (f g : ℕ → ℕ) (st : State) (ws : List ℕ) (m : Memory) where
  abbrev writes : List ℕ
  writes = writes_of n k f st ws

  abbrev reads : List ℕ
  reads = reads_of n k g st

  abbrev this : Outcome
  this = call t n k f g st ws m

  comes : {o : Option Refusal} → first_of (t ++ faults k writes reads m.marks m.marks) ≡ o → this ≡ call_or o n k f g st ws m
  comes e = ap (λ (o : Option Refusal). call_or o n k f g st ws m) e

  pub call_given : this.refusal ≡ first_of (t ++ faults k writes reads m.marks m.marks)
  call_given = go (first_of (t ++ faults k writes reads m.marks m.marks))
    where
      go : (o : Option Refusal) → (call_or o n k f g st ws m).refusal ≡ o
      go none = refl
      go (some x) = refl

  pub call_refused : {x : Refusal} → this.refusal ≡ some x → this ≡ refused x st m
  call_refused e = comes (sym call_given ∙ e)

  pub call_done : this.refusal ≡ none → this ≡ carried_out n k f g st ws m
  call_done e = comes (sym call_given ∙ e)

  pub call_past : first_of t ≡ none → this ≡ call [] n k f g st ws m
  call_past given = comes (first_append t _ ((first_none t).0 given))

  pub call_leaving : length this.leaving ≡ cond this.handed (2 ^ k) 0
  call_leaving = go (first_of (t ++ faults k writes reads m.marks m.marks))
    where
      go : (o : Option Refusal) → length (call_or o n k f g st ws m).leaving ≡ cond (call_or o n k f g st ws m).handed (2 ^ k) 0
      go none = length-map reads (λ (x : ℕ). get_or m.words x 0) ∙ reads_length n k g st
      go (some x) = refl

  pub call_idle : this.handed ≡ false → this.leaving ≡ []
  call_idle e = nothing this.leaving (call_leaving ∙ ap (λ (b : Bool). cond b (2 ^ k) 0) e)

  module _ (ok : this.refusal ≡ none) where
    pub call_possible : Possible (ticks n k) st → Possible (ticks n k) this.state
    call_possible possible = rw (call_done ok) (next_possible (ticks n k) st ws possible)

    pub call_filled : ((i : ℕ) → f i < 2 ^ n) → ((i : ℕ) → g i < 2 ^ n) → st.h < 2 → length m.marks ≡ 2 ^ (n + 1) → IsLength (length ws) (or_none (2 ^ k))
        → filled_marks this.memory.marks + cond this.handed (2 ^ k) 0 ≡ filled_marks m.marks + length ws
    call_filled into from half marks came =
        let (clash, (filled, (crossed, (empty, _)))) = (first_none (faults k writes reads m.marks m.marks)).0 ((first_both t _).0 (sym call_given ∙ ok)).1 in
        let written : AllBelow (length m.marks) writes = rw marks (writes_below n k f into st ws half) in
        let taken : AllBelow (length m.marks) reads = rw marks (reads_below n k g from st) in
        rw (call_done ok) (
        omega (
          arith,
          served_filled (access_of n k f g st ws) m (apart k writes clash) (apart k reads crossed) written taken filled empty,
          reads_length n k g st,
          writes_length n k f st ws came,
        )
        )
