use Rattle.std.proofs.Common.{ℕ, suc, ◌≡◌, ◌+◌, ◌*◌, ◌^◌, ◌≤◌, ◌<◌, min, List, ◌++◌, length, take, drop, sym, ap, ◌∙◌, arith, length-drop, take_at, drop_at, Result}
use Rattle.std.specs.Slice.Iter.{chunks_rest, chunks_size}
use Rattle.std.specs.declared.slice.Chunks.{Chunks}
use native.Mathlib.Decide.{dec_lt}
use native.Mathlib.Nat.{mul-le-mul_right, lt_of_mul-lt-mul_right}
use lib.Pow.{pow_pos}
use lib.Seq.{drop-drop}
use Rattle.kinds.specs.Edition.{edition1}
use Rattle.kinds.specs.Frame.{ticks}
use Rattle.kinds.specs.declared.Refusal.{Refusal}
use Rattle.kinds.proofs.FrameLaws.{frame_whole, in_order_length}
use Rattle.state.specs.declared.State.{State}
use Rattle.call.specs.Tool.{state_after}
use Rattle.call.specs.declared.Ran.{Ran}
use Rattle.run.specs.Tool.{Runs}
use Rattle.promise.specs.Run.{standing}
use Rattle.trial.specs.Inside.{Here, Entering}
use Rattle.trial.proofs.CallLaws.{lent, tick_fits, part_comes, call_goes}
use Rattle.trial.proofs.take_in.Invariants.{Taking}
use Rattle.trial.proofs.take_in.Goals as goal

start : {n k r : ℕ} {s f out ws ms : List ℕ} {it : Chunks ℕ} → Entering n k s f out ws ms → r ≡ ticks n k → chunks_size it ≡ length out → chunks_rest it ≡ f
    → Taking n k s f out ws ms (record { a = 0; h = 0; r = r }) it
unfolding standing
start {k = k} entering idle size rest =
    let none_passed : 0 * 2 ^ k ≡ 0 = omega arith in
    record {
      run = entering.numbered.runnable;
      words = entering.numbered.words;
      room = entering.room;
      calls = 0;
      early = omega arith;
      here = record { stands = rw (idle, entering.words, entering.marks) };
      size = size ∙ entering.room;
      left = rw none_passed rest;
    }

module _ {n k : ℕ} {s f out ws ms : List ℕ} {st : State} {it : Chunks ℕ} (t : Taking n k s f out ws ms st it) where
  within : k ≤ n
  within = omega (arith, t.run.sized.most)

  long : length f ≡ 2 ^ n
  long = ap length t.words ∙ in_order_length (2 ^ n) _

  left_long : length (chunks_rest it) + t.calls * 2 ^ k ≡ 2 ^ n
  left_long =
      omega (arith, ap length t.left, length-drop (t.calls * 2 ^ k) f, long, frame_whole within, mul-le-mul_right (2 ^ k) t.early)

  module _ (it' : Chunks ℕ) (came : List ℕ) (size : chunks_size it' ≡ chunks_size it) (cut : chunks_rest it ≡ came ++ chunks_rest it')
      (cut_long : length came ≡ min (chunks_size it) (length (chunks_rest it))) (some_left : 0 < length (chunks_rest it)) where
    one_left : t.calls < ticks n k
    one_left = lt_of_mul-lt-mul_right (2 ^ k) (omega (arith, left_long, frame_whole within))

    came_long : length came ≡ 2 ^ k
    came_long = omega (arith, cut_long, t.size, left_long, tick_fits within one_left)

    comes : came ≡ take (2 ^ k) (drop (t.calls * 2 ^ k) f)
    comes = sym (ap (take (2 ^ k)) (sym t.left ∙ cut) ∙ take_at came (chunks_rest it') (2 ^ k) came_long)

    stays : chunks_rest it' ≡ drop (suc t.calls * 2 ^ k) f
    stays =
        let next : t.calls * 2 ^ k + 2 ^ k ≡ suc t.calls * 2 ^ k = omega arith in
        sym (rw (← next) (sym (drop-drop (2 ^ k) (t.calls * 2 ^ k) f) ∙ ap (drop (2 ^ k)) (sym t.left ∙ cut) ∙ drop_at came (chunks_rest it') (2 ^ k) came_long))

    more : {ws' ms' out' : List ℕ} {st' : State} {a : Result Ran Refusal} → Runs edition1 n k s (lent st came ws ms out) (record { answer = a; memory = record { words = ws'; marks = ms' }; out = out' })
        → st' ≡ state_after st a → length out' ≡ length out → Taking n k s f out' ws' ms' st' it'
    more goes after same = record {
      run = t.run;
      words = t.words;
      room = same ∙ t.room;
      calls = suc t.calls;
      early = one_left;
      here = (call_goes t.run (omega (arith, one_left)) t.here t.room (comes ∙ part_comes t.run t.words one_left) goes after).0;
      size = size ∙ t.size;
      left = stays;
    }

  done : length (chunks_rest it) ≡ 0 → Here n k s (ticks n k) st ws ms
  done none_left =
      let last : t.calls ≡ ticks n k = elim (dec_lt t.calls (ticks n k)) [
        | yes l ↦ absurd (omega (arith, none_left, left_long, tick_fits within l, pow_pos k))
        | no h ↦ omega (arith, t.early)
      ] in
      rw last at t.here

pub loop-came-init : goal.loop-came-init
loop-came-init c = rw c.into_iter-came-iterator.ensures.into_iter_gives (start c.requires c.ticks.ensures c.chunks-came-items.ensures.size c.chunks-came-items.ensures.rest)

pub loop-came-preserved : goal.loop-came-preserved
loop-came-preserved c =
    let (size, step) = c.in-Some.ensures.steps in
    let (cut, long, some_left) = step in
    more c.loop-came.invariant c.next.new.self c.in-Some.came.now size cut long some_left c.tick-answer.ensures c.after-state.ensures c.tick-answer.auto.out

pub returns : goal.returns
returns c = done c.loop-came.invariant c.in-None.ensures.steps.1.0
