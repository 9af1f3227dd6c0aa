-- The run in two halves keeps what it needs, where the maps of every frame fit its order. The maps and the order may differ from frame to frame.
--   called_keeps     so it does
--   called_right     the run is right
--   called_hands     and a tick is handed out exactly in the calls in which one is due
use Prim.Native.Nat.{ℕ, ◌+◌, ◌^◌, ◌<◌, ◌≤◌}
use mathlib.Core.Path.{◌≡◌, sym, ap, ◌∙◌}
use mathlib.Core.Bool.{true}
use mathlib.Core.List.{List, [], flatten}
use mathlib.Core.Option.{none}
use native.Mathlib.Omega.{arith}
use borrow.Author.Tests.{lt-ltb}
use lib.ListN.{length, get_or}
use Rattle.kinds.specs.Frame.{ticks, tick_of, port_of}
use Rattle.kinds.specs.Answers.{Says}
use Rattle.kinds.proofs.FrameLaws.{tick_lt, port_lt}
use Rattle.state.specs.States.{clock_of, reading}
use Rattle.state.specs.declared.Clock.{Clock}
use Rattle.state.proofs.StateLaws.{next_clock_law}
use Rattle.call.specs.Call.{Outcome, carried_out}
use Rattle.call.proofs.CallLaws.{call_done, call_leaving}
use Rattle.promise.proofs.SeriesLaws.{WholeTicks, word_comes}
use Rattle.promise.specs.Series.{call_at, word_in, TickDue}
use Rattle.promise.specs.Seen.{Seen, Leaves, RightOver}
use Rattle.promise.specs.Run.{Stand, Fresh, incoming, outgoing}
use Rattle.promise.specs.Answered.{stand_after, seen_of, seen_at, called}
use Rattle.realise.proofs.Fits.{FitsOrder}
use Rattle.promise.proofs.FreshLaws.{fresh_clock}
use Rattle.realise.proofs.HalfLaws.{Held, Brings, held_fresh, held_sound, held_word, held_stays, held_turns}
use Rattle.promise.proofs.FamilyLaws.{Now, Keeps, family_right, family_hands}

module _ {n k : ℕ} (within : k ≤ n) {P f g : ℕ → ℕ → ℕ} (fits : (F : ℕ) → FitsOrder n k (P F) (f F) (g F)) (S : List (List ℕ)) (whole : WholeTicks k S) where
  abbrev clock : Stand → Clock
  clock y = clock_of y.state

  abbrev seen : ℕ → Stand → Seen
  seen j y = seen_of (called n k f g S j y)

  abbrev after : ℕ → Stand → Stand
  after j y = stand_after (called n k f g S j y)

  -- the halves hold what has come of F, and what is left of G
  abbrev HeldBy : ℕ → ℕ → Stand → Type 0
  HeldBy F G y = Held n k y.state y.memory (f F) (word_in n S F) (P G) (f G) (word_in n S G)

  module _ {j : ℕ} {y : Stand} (reach : j < length S) (now : Now n k S P clock seen after HeldBy j y) where
    abbrev F : ℕ
    F = incoming n S j

    abbrev G : ℕ
    G = outgoing n S j

    fine : (called n k f g S j y).refusal ≡ none
    fine = held_sound within (fits F) (fits G) now.held (call_at S j)

    done : called n k f g S j y ≡ carried_out n k (f F) (g G) y.state (call_at S j) y.memory
    done = call_done [] n k (f F) (g G) y.state (call_at S j) y.memory fine

    -- the words that come are the incoming frame's
    brings : Brings k y.state.a (word_in n S F) (call_at S j)
    brings = record {
      count = whole j reach;
      words = λ p l. sym (word_comes S j p reach l) ∙ ap (λ (i : ℕ). get_or (flatten S) i 0) (omega (arith, now.counted.counted));
    }

    word_leaves : (i : ℕ) → i < 2 ^ n → tick_of k (P G i) ≡ y.state.r → Leaves (seen j y) (port_of k (P G i)) (word_in n S G i)
    word_leaves i l e =
        let busy : y.state.r < ticks n k = omega (arith, tick_lt within ((fits G).places.into i l)) in
        let reads : reading (ticks n k) y.state ≡ true = lt-ltb y.state.r (ticks n k) busy in
        let all : length (called n k f g S j y).leaving ≡ 2 ^ k = call_leaving [] n k (f F) (g G) y.state (call_at S j) y.memory ∙ rw (done, reads) in
        record { handed = rw done reads; port = rw all (port_lt k (P G i)); word = rw done (held_word within (fits F) (fits G) now.held i l e) }

  pub called_keeps : Keeps n k S P clock seen after HeldBy
  called_keeps = record {
    goes = λ {j} {y} reach now. ap (λ (o : Outcome). clock_of o.state) (done reach now) ∙ next_clock_law (ticks n k) y.state (call_at S j);
    hands = λ reach now. ap (λ (o : Outcome). o.handed) (done reach now);
    sound = fine;
    word = word_leaves;
    stays = λ {j} reach now part. rw (done reach now) (held_stays within (fits (incoming n S j)) (fits (outgoing n S j)) now.held (brings reach now) part);
    turns = λ {j} reach now full.
        rw (done reach now)
        (held_turns within (fits (incoming n S j)) (fits (outgoing n S j)) now.held (brings reach now) full (fits (incoming n S j + 1)).write_cells);
  }

  module _ {x : Stand} (fresh : Fresh n k x) where
    pub called_right : RightOver 0 n k P (seen_at (called n k f g S) x) S
    called_right = family_right within whole (λ F. (fits F).places.into) called_keeps x (fresh_clock fresh) (held_fresh within (fits (outgoing n S 0)).places fresh)

    pub called_hands : (j : ℕ) → j < length S → Says (seen_at (called n k f g S) x j).handed (TickDue 0 n k S j)
    called_hands = family_hands within whole (λ F. (fits F).places.into) called_keeps x (fresh_clock fresh) (held_fresh within (fits (outgoing n S 0)).places fresh)
