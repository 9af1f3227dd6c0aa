use Rattle.std.proofs.Common.{ℕ, suc, ◌≡◌, ◌+◌, ◌-◌, ◌*◌, ◌^◌, ◌≤◌, ◌<◌, List, [], ◌++◌, length, get_or, take, drop, sym, ap, ap₂, ◌∙◌, append-nil, arith, drop_of_length-le, length-append, length-take, length-drop, Result}
use Rattle.std.proofs.lemmas.List.{places}
use native.Mathlib.Decide.{dec_lt}
use native.Mathlib.Nat.{add-zero, mul-le-mul_right}
use lib.Pow.{high, low}
use Rattle.kinds.specs.Answers.{over_front}
use Rattle.kinds.specs.Edition.{edition1}
use Rattle.kinds.specs.Frame.{ticks, tick_of, port_of}
use Rattle.kinds.specs.declared.Refusal.{Refusal}
use Rattle.kinds.proofs.FrameLaws.{frame_whole, in_order_length, in_order_is}
use Rattle.state.specs.declared.State.{State}
use Rattle.call.specs.Tool.{state_after}
use Rattle.call.specs.declared.Ran.{Ran}
use Rattle.run.specs.Tool.{Runs}
use Rattle.realise.proofs.OneFrame.{blank_call}
use Rattle.trial.specs.Inside.{leaves_in, frame_handed}
use Rattle.trial.proofs.CallLaws.{lent, tick_fits, tick_leaves, call_goes}
use Rattle.trial.proofs.hand_out.Invariants.{word_left, Handing}
use Rattle.trial.proofs.hand_out.Goals as goal

in_part : (a : ℕ) (l r rest : List ℕ) (p : ℕ) → a ≤ length l → p < length r → get_or (take a l ++ (r ++ rest)) (a + p) 0 ≡ get_or r p 0
in_part a l r rest p h b = grind (arith, places)

module _ {n k c : ℕ} {s f ws ms : List ℕ} {st : State} (i : Handing n k s f ws ms st c) where
  within : k ≤ n
  within = omega (arith, i.run.sized.most)

  module _ {ports : ℕ} (wide : ports ≡ 2 ^ k) (h : c < ticks n k) where
    abbrev at : ℕ
    at = c * ports

    abbrev part : List ℕ
    part = take (at + ports - at) (drop at f)

    abbrev tick : List ℕ
    tick = leaves_in n k s (ticks n k + c)

    -- the frame, with the numbers r for the part
    abbrev with : List ℕ → List ℕ
    with r = take at f ++ (r ++ drop (at + ports - at) (drop at f))

    from_tick : at ≡ c * 2 ^ k
    from_tick = ap (λ (p : ℕ). c * p) wide

    fits : at + ports ≤ length f
    fits = omega (arith, from_tick, wide, i.room, tick_fits within h)

    part_length : length part ≡ 2 ^ k
    part_length = omega (arith, length-take (at + ports - at) (drop at f), length-drop at f, fits, wide)

    with_length : (r : List ℕ) → length r ≡ length part → length (with r) ≡ length f
    with_length r same = omega (arith, same, fits, length-append {A = ℕ}, length-take {A = ℕ}, length-drop {A = ℕ})

    tick_length : length tick ≡ 2 ^ k
    tick_length = ap length (tick_leaves i.run h) ∙ in_order_length (2 ^ k) _

    tick_fills : over_front tick part ≡ tick
    tick_fills = rw (drop_of_length-le part {i = length tick} (omega (arith, part_length, tick_length))) (append-nil tick)

    tick_there : (q : ℕ) → at ≤ q → q < at + ports → get_or (with tick) q 0 ≡ word_left n k s q
    tick_there q from l =
        let port : q - at < 2 ^ k = omega (arith, wide) in
        let place : q ≡ at + (q - at) = omega arith in
        let word : q ≡ c * 2 ^ k + (q - at) = omega (arith, from_tick) in
        ap (λ (x : ℕ). get_or (with tick) x 0) place
        ∙ in_part at f tick _ _ (omega (arith, fits)) (omega (arith, tick_length))
        ∙ sym (ap₂ (λ (d x : ℕ). get_or (leaves_in n k s (ticks n k + d)) x 0) (ap (tick_of k) word ∙ high c k port) (ap (port_of k) word ∙ low c k port))

    more : {left ws' ms' : List ℕ} {st' : State} {a : Result Ran Refusal} → Runs edition1 n k s (lent st [] ws ms part) (record { answer = a; memory = record { words = ws'; marks = ms' }; out = left })
        → st' ≡ state_after st a → length left ≡ length part → Handing n k s (with left) ws' ms' st' (c + 1)
    more {left} goes after same =
        let (here, buffer) = call_goes i.run (omega arith) i.here part_length (sym (blank_call n k (λ j. j) c h)) goes after in
        let next : ticks n k + (c + 1) ≡ suc (ticks n k + c) = omega arith in
        record {
          run = i.run;
          room = with_length left same ∙ i.room;
          here = rw next here;
          each = λ q l. elim (dec_lt q at) [
            | yes b ↦ let before : get_or (with left) q 0 ≡ get_or f q 0 = grind (arith, places, fits) in before ∙ i.each q (omega (arith, from_tick))
            | no b ↦ rw (buffer ∙ tick_fills) (tick_there q (omega arith) (omega (arith, from_tick, wide)))
          ];
        }

  done : ticks n k ≤ c → f ≡ frame_handed n k s
  done end = in_order_is (2 ^ n) (word_left n k s) 0 f i.room (λ q l. i.each q (omega (arith, frame_whole within, mul-le-mul_right (2 ^ k) end)))

pub loop-c-init : goal.loop-c-init
loop-c-init c = record { run = c.requires.runnable; room = c.requires.room; here = rw add-zero c.requires.entered; each = λ q l. absurd (omega arith) }

pub slice_bounds-out-end : goal.slice_bounds-out-end
slice_bounds-out-end c = fits c.loop-c.invariant c.ports-ports.ensures (rw c.ticks-c-end.ensures at c.loop-c-test.true)

pub loop-c-preserved : goal.loop-c-preserved
loop-c-preserved c =
    more c.loop-c.invariant c.ports-ports.ensures (rw c.ticks-c-end.ensures at c.loop-c-test.true) c.tick-answer.ensures c.after-state.ensures c.tick-answer.auto.out

pub returns : goal.returns
returns c = done c.loop-c.invariant (rw c.ticks-c-end.ensures at c.loop-c-test.false)
