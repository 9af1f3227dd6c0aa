-- The calls of a trial.
--   lent st ts ws ms out      what a call is lent: the words ts come, and ws and ms are the words and the marks of the memory
--   tick_fits       a tick of a frame is whole
--   part_comes      tick c of the words is call c
--   call_goes       a call that is made where the run stands goes to where it stands next, and what the run hands out is then in the out buffer
--   tick_leaves     in blank call c tick c of the words in lamp order leaves
--   handed_lamp     so all that is handed out is the words in lamp order
use Prim.Native.Nat.{ℕ, suc, ◌+◌, ◌-◌, ◌*◌, ◌^◌, ◌<◌, ◌≤◌}
use mathlib.Core.Path.{◌≡◌, sym, ap, ap₂, ◌∙◌}
use mathlib.Core.List.{List}
use native.Mathlib.Nat.{suc-mul, mul-le-mul_right}
use native.Mathlib.Omega.{arith}
use lib.ListN.{length, get_or, take, drop, length-take, length-drop}
use lib.Pow.{pow_pos, pow_mono, split}
use lib.Seq.{ext_get_or, get_or-take, get_or-drop}
use Rattle.std.specs.Prelude.{Result}
use Rattle.kinds.specs.Edition.{edition1}
use Rattle.kinds.specs.declared.Refusal.{Refusal}
use Rattle.kinds.specs.Frame.{tick_bits, ticks, port_of, in_order}
use Rattle.kinds.proofs.FrameLaws.{frame_whole, tick_lt, port_lt, word_lt, in_order_length, in_order_at, in_order_is}
use Rattle.memory.specs.Memory.{Memory}
use Rattle.kinds.specs.Answers.{over_front}
use Rattle.state.specs.declared.State.{State}
use Rattle.lent.specs.Lent.{Lent}
use Rattle.call.specs.Tool.{After, state_after, ComesOf}
use Rattle.call.specs.declared.Ran.{Ran}
use Rattle.run.specs.Tool.{Runs}
use Rattle.promise.specs.Series.{call_at, Series, word_in, frame, words_of_tick}
use Rattle.promise.specs.Run.{standing}
use Rattle.promise.specs.Answered.{outcome_at, called_on, fresh_stand}
use Rattle.realise.proofs.OneFrame.{one_frame_length, came, came_at, completed, word_in_law, one_frame_series}
use Rattle.promise.proofs.FreshLaws.{is_fresh}
use Rattle.caller.specs.AsTool.{tool_call}
use Rattle.caller.proofs.ToolLaws.{tool_call_law}
use Rattle.realise.proofs.SheetLaws.{right_tick}
use Rattle.trial.specs.Trial.{trial_calls, word_at_place, words_as_they_leave}
use Rattle.trial.specs.Inside.{leaves_in, frame_handed, Here, Runnable}
use Rattle.trial.proofs.LampLaws.{lamp_moved}

abbrev pub lent : State → List ℕ → List ℕ → List ℕ → List ℕ → Lent
lent st ts ws ms out = record { state = st; came = ts; memory = record { words = ws; marks = ms }; out = out }

pub tick_fits : {n k c : ℕ} → k ≤ n → c < ticks n k → c * 2 ^ k + 2 ^ k ≤ 2 ^ n
tick_fits {n} {k} {c} within h = omega (arith, frame_whole within, mul-le-mul_right (2 ^ k) h, suc-mul c (2 ^ k))

module _ {n k : ℕ} {s : List ℕ} (run : Runnable n k s) where
  abbrev T : ℕ
  T = ticks n k

  abbrev S : List (List ℕ)
  S = trial_calls n k

  within : k ≤ n
  within = omega (arith, run.sized.most)

  whole : length S ≡ 2 * T
  whole = one_frame_length n k (λ i. i)

  series : Series k S
  series = one_frame_series n k (λ i. i) within (λ i h. omega (arith, pow_mono {i = n} {j = 10} run.sized.frame.most))

  module _ {f : List ℕ} {c : ℕ} (words : f ≡ in_order (2 ^ n) (λ i. i)) (h : c < T) where
    part_long : length (take (2 ^ k) (drop (c * 2 ^ k) f)) ≡ 2 ^ k
    part_long =
        let count : length f ≡ 2 ^ n = ap length words ∙ in_order_length (2 ^ n) (λ i. i) in
        omega (arith, length-take (2 ^ k) (drop (c * 2 ^ k) f), length-drop (c * 2 ^ k) f, tick_fits within h)

    part_at : (p : ℕ) → p < 2 ^ k → get_or (take (2 ^ k) (drop (c * 2 ^ k) f)) p 0 ≡ c * 2 ^ k + p
    part_at p l =
        get_or-take (2 ^ k) (drop (c * 2 ^ k) f) p 0 l
        ∙ get_or-drop (c * 2 ^ k) f p 0
        ∙ ap (λ (x : List ℕ). get_or x (c * 2 ^ k + p) 0) words
        ∙ in_order_at (2 ^ n) (λ i. i) 0 (c * 2 ^ k + p) (word_lt within h l)

    pub part_comes : take (2 ^ k) (drop (c * 2 ^ k) f) ≡ call_at S c
    part_comes =
        ext_get_or 0 (take (2 ^ k) (drop (c * 2 ^ k) f)) (call_at S c) (part_long ∙ sym (came n k (λ i. i) c h)) (λ p b.
        let l : p < 2 ^ k = rw part_long at b in
        part_at p l ∙ sym (came_at n k (λ i. i) c p h l))

  call_comes : {j : ℕ} → j < 2 * T → {st : State} {ws ms out : List ℕ} {l : After} → Here n k s j st ws ms → length out ≡ 2 ^ k → Runs edition1 n k s (lent st (call_at S j) ws ms out) l
      → ComesOf (outcome_at (called_on edition1 n k s S) (fresh_stand n k) j) (lent st (call_at S j) ws ms out) l
  call_comes {j} h {out = out} here room goes =
      let reach : j < length S = rw whole h in
      let p = run.planned in
      let comes = tool_call_law edition1 n k s S (λ i. out) (fresh_stand n k) run.sized p.places p.formed (λ i l. room) (is_fresh n k) series j reach in
      rw (ap (tool_call edition1 n k s S (λ i. out) j) here.stands ∙ comes) at goes

  pub call_goes : {j : ℕ} → j < 2 * T → {st st' : State} {ts ws ms ws' ms' out left : List ℕ} {a : Result Ran Refusal} → Here n k s j st ws ms → length out ≡ 2 ^ k → ts ≡ call_at S j
      → Runs edition1 n k s (lent st ts ws ms out) (record { answer = a; memory = record { words = ws'; marks = ms' }; out = left }) → st' ≡ state_after st a
      → Here n k s (suc j) st' ws' ms' × (left ≡ over_front (leaves_in n k s j) out)
  unfolding standing
  call_goes h here room brings goes after =
      let comes = call_comes h here room (rw brings at goes) in
      (record { stands = ap₂ (λ (y : State) (m : Memory). record { state = y; memory = m }) (after ∙ comes.state) comes.memory }, comes.buffer)

  words_in : frame n S 0 ≡ in_order (2 ^ n) (λ i. i)
  words_in =
      in_order_is (2 ^ n) (λ i. i) 0 (frame n S 0) (in_order_length (2 ^ n) _)
      (λ i h. in_order_at (2 ^ n) (word_in n S 0) 0 i h ∙ word_in_law n k (λ i. i) within i h)

  abbrev lamps : List ℕ
  lamps = words_as_they_leave n run.columns

  pub tick_leaves : {c : ℕ} → c < T → leaves_in n k s (T + c) ≡ words_of_tick k lamps c
  tick_leaves {c} h =
      let then : T + c ≡ T - 1 + 1 + c = omega (arith, pow_pos (tick_bits n k)) in
      ap (leaves_in n k s) then
      ∙ right_tick within run.order run.planned.right (fresh_stand n k) S (is_fresh n k) series (completed n k (λ i. i) within) h
      (omega (arith, whole, pow_pos (tick_bits n k))) lamps (rw words_in (lamp_moved run.order))

  pub handed_lamp : frame_handed n k s ≡ lamps
  handed_lamp =
      in_order_is (2 ^ n) (word_at_place n run.columns) 0 (frame_handed n k s) (in_order_length (2 ^ n) _) (λ q h.
      in_order_at (2 ^ n) _ 0 q h
      ∙ ap (λ (ws : List ℕ). get_or ws (port_of k q) 0) (tick_leaves (tick_lt within h))
      ∙ in_order_at (2 ^ k) _ 0 (port_of k q) (port_lt k q)
      ∙ ap (λ (i : ℕ). get_or lamps i 0) (split q k)
      ∙ in_order_at (2 ^ n) (word_at_place n run.columns) 0 q h)
