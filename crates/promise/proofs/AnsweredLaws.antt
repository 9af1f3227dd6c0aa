-- The run that refuses nothing, and the run that refuses 11 to 14: where nothing is wrong they are one.
--   nothing_wrong       a call is not refused exactly when none of 11 to 14 applies
--   which_faults        11 to 14 are faults; 10, 15 and no refusal are none
--   no_fault_none       a call that is answered none of 11 to 14 is not refused
--   unrefused_stands    as long as no call is refused, the two stand at one place
--   answered_exact      so the run is right exactly when it is by its answers
use Prim.Native.Nat.{ℕ, zero, suc, ◌<◌}
use mathlib.Core.Path.{◌≡◌, refl, sym, ap, ◌∙◌}
use mathlib.Core.Bool.{Bool, true, false, cond}
use mathlib.Core.List.{List, []}
use mathlib.Core.Logic.{◌↔◌}
use mathlib.Core.Option.{Option, none, some}
use native.Mathlib.Omega.{arith}
use lib.ListN.{length, get_or, length-map}
use Rattle.kinds.specs.Frame.{ticks}
use Rattle.kinds.specs.First.{Reason, EachReason}
use Rattle.kinds.specs.Refusal.{given}
use Rattle.kinds.specs.declared.Port.{Port}
use Rattle.kinds.specs.declared.Refusal.{Refusal}
use Rattle.kinds.specs.declared.Refusal.TheVariants.{State as Impossible, WriteClash, Overwrite, ReadClash, EmptyRead, Card}
use Rattle.kinds.proofs.FirstLaws.{first_none, first_has}
use Rattle.state.specs.States.{reading}
use Rattle.state.specs.declared.State.{State}
use Rattle.faults.specs.Table.{faults}
use Rattle.memory.specs.Memory.{Memory, words_at}
use Rattle.memory.proofs.MemoryLaws.{words_at_law}
use Rattle.call.specs.Call.{reads_of, writes_of, access_of, Outcome, call}
use Rattle.call.proofs.CallLaws.{call_given, call_done}
use Rattle.promise.specs.Series.{call_at}
use Rattle.promise.specs.Seen.{IsFault, Leaves, RightOver}
use Rattle.promise.specs.Run.{Stand, standing, incoming, outgoing, carried}
use Rattle.promise.specs.Right.{LeavesBy, RightFrom}
use Rattle.promise.specs.Answered.{stand_after, seen_of, stands, seen_at, called}

pub which_faults : (p q : Port) → (IsFault (some (WriteClash p q)) × IsFault (some Overwrite) × IsFault (some (ReadClash p q)) × IsFault (some EmptyRead))
    × ((¬ IsFault (some Impossible)) × (¬ IsFault (some Card)) × (¬ IsFault none))
which_faults p q = ((omega arith, omega arith, omega arith, omega arith), (λ (low, high). omega (arith, low), λ (low, high). omega (arith, high), λ (low, high). omega (arith, low)))

some_read : (b : Bool) (l : List ℕ) (p : ℕ) → p < length (cond b l []) → b ≡ true
some_read true l p h = refl
some_read false l p h = absurd (omega arith)

module _ (n k : ℕ) (f g : ℕ → ℕ) (st : State) (ws : List ℕ) (m : Memory) where
  abbrev refusal : Option Refusal
  refusal = (call [] n k f g st ws m).refusal

  abbrev table : List Reason
  table = faults k (writes_of n k f st ws) (reads_of n k g st) m.marks m.marks

  pub nothing_wrong : (refusal ≡ none) ↔ EachReason (λ r. ¬ r.applies) table
  nothing_wrong = (λ ok. (first_none table).0 (sym (call_given [] n k f g st ws m) ∙ ok), λ each. call_given [] n k f g st ws m ∙ (first_none table).1 each)

  pub no_fault_none : ¬ IsFault refusal → refusal ≡ none
  no_fault_none no_fault = go refusal refl
    where
      go : (o : Option Refusal) → refusal ≡ o → o ≡ none
      go none e = refl
      go (some x) e = absurd (no_fault (rw e (first_has (λ r. IsFault (some r)) table (omega arith) (sym (call_given [] n k f g st ws m) ∙ e))))

  -- a call that is not refused hands out what it reads
  module _ (ok : refusal ≡ none) where
    abbrev reads : List ℕ
    reads = reads_of n k g st

    leaving : (call [] n k f g st ws m).leaving ≡ words_at reads m.words
    leaving = ap (λ (o : Outcome). o.leaving) (call_done [] n k f g st ws m ok)

    same_length : length (words_at reads m.words) ≡ length reads
    same_length = length-map reads (λ (x : ℕ). get_or m.words x 0)

    leaves_seen : {p w : ℕ} → LeavesBy (access_of n k f g st ws) m p w → Leaves (seen_of (call [] n k f g st ws m)) p w
    leaves_seen {p} by = record {
      handed = ap (λ (o : Outcome). o.handed) (call_done [] n k f g st ws m ok) ∙ some_read (reading (ticks n k) st) _ p by.0;
      port = rw leaving (rw same_length by.0);
      word = ap (λ (l : List ℕ). get_or l p 0) leaving ∙ words_at_law reads m.words p by.0 ∙ by.1;
    }

    seen_leaves : {p w : ℕ} → Leaves (seen_of (call [] n k f g st ws m)) p w → LeavesBy (access_of n k f g st ws) m p w
    seen_leaves {p} seen =
        let port : p < length reads = rw same_length at (rw leaving at seen.port) in
        (port, sym (ap (λ (l : List ℕ). get_or l p 0) leaving ∙ words_at_law reads m.words p port) ∙ seen.word)

module _ (n k : ℕ) (f g : ℕ → ℕ → ℕ) (x : Stand) (S : List (List ℕ)) where
  abbrev at : ℕ → Stand
  at = stands (called n k f g S) x

  abbrev free : ℕ → Stand
  free = standing (carried n k f g S) x

  carries : (j : ℕ) (y : Stand) → (called n k f g S j y).refusal ≡ none → stand_after (called n k f g S j y) ≡ carried n k f g S j y
  carries j y ok = ap stand_after (call_done [] n k (f (incoming n S j)) (g (outgoing n S j)) y.state (call_at S j) y.memory ok)

  pub unrefused_stands : (j : ℕ) → ((i : ℕ) → i < j → (called n k f g S i (free i)).refusal ≡ none) → stands (called n k f g S) x j ≡ standing (carried n k f g S) x j
  unfolding standing
  unrefused_stands zero fine = refl
  unrefused_stands (suc j) fine =
      ap (λ (y : Stand). stand_after (called n k f g S j y)) (unrefused_stands j (λ i l. fine i (omega arith)))
      ∙ carries j (free j) (fine j (omega arith))

  -- the same, where the calls of the run that refuses are looked at
  called_stands : (j : ℕ) → ((i : ℕ) → i < j → (called n k f g S i (at i)).refusal ≡ none) → at j ≡ free j
  unfolding standing
  called_stands zero fine = refl
  called_stands (suc j) fine =
      carries j (at j) (fine j (omega arith))
      ∙ ap (carried n k f g S j) (called_stands j (λ i l. fine i (omega arith)))

  module _ {P : ℕ → ℕ → ℕ} where
    plain_answered : RightFrom n k P f g x S → RightOver 0 n k P (seen_at (called n k f g S) x) S
    plain_answered right = record {
      no_fault = λ j reach (low, high). omega (arith, ap given (ap (λ (y : Stand). (called n k f g S j y).refusal) (same j reach) ∙ fine j reach), low);
      leaves = λ F T i j completed l is reach. rw (same j reach)
          (leaves_seen n k (f (incoming n S j)) (g (outgoing n S j)) (free j).state (call_at S j) (free j).memory (fine j reach) (right.leaves F T i j completed l is reach));
    }
      where
        fine : (j : ℕ) → j < length S → (called n k f g S j (free j)).refusal ≡ none
        fine j reach = (nothing_wrong n k (f (incoming n S j)) (g (outgoing n S j)) (free j).state (call_at S j) (free j).memory).1
            (right.no_two_written j reach, (right.none_overwritten j reach, (right.no_two_read j reach, (right.none_empty j reach, tt))))

        same : (j : ℕ) → j < length S → at j ≡ free j
        same j reach = unrefused_stands j (λ i l. fine i (omega arith))

    answered_plain : RightOver 0 n k P (seen_at (called n k f g S) x) S → RightFrom n k P f g x S
    answered_plain right = record {
      no_two_written = λ j reach. (sound j reach).0;
      no_two_read = λ j reach. (sound j reach).1.1.0;
      none_overwritten = λ j reach. (sound j reach).1.0;
      none_empty = λ j reach. (sound j reach).1.1.1.0;
      leaves = λ F T i j completed l is reach. rw (same j reach) at
          (seen_leaves n k (f (incoming n S j)) (g (outgoing n S j)) (at j).state (call_at S j) (at j).memory (fine j reach) (right.leaves F T i j completed l is reach));
    }
      where
        fine : (j : ℕ) → j < length S → (called n k f g S j (at j)).refusal ≡ none
        fine j reach = no_fault_none n k (f (incoming n S j)) (g (outgoing n S j)) (at j).state (call_at S j) (at j).memory (right.no_fault j reach)

        same : (j : ℕ) → j < length S → at j ≡ free j
        same j reach = called_stands j (λ i l. fine i (omega arith))

        sound : (j : ℕ) → j < length S → EachReason (λ r. ¬ r.applies) (table n k (f (incoming n S j)) (g (outgoing n S j)) (free j).state (call_at S j) (free j).memory)
        sound j reach = (nothing_wrong n k (f (incoming n S j)) (g (outgoing n S j)) (free j).state (call_at S j) (free j).memory).0 (rw (same j reach) at (fine j reach))

    pub answered_exact : RightFrom n k P f g x S ↔ RightOver 0 n k P (seen_at (called n k f g S) x) S
    answered_exact = (plain_answered, answered_plain)
