-- What a right run hands out for a frame, by what is seen of it.
--   Whole k o S      a call of the series S that hands out a tick hands out 2^k words, and any other none
--   over_tick        in the calls after the one that completes a frame, the ticks of the frame put in order leave, one in each call
--   over_hands       in a call in which a tick is due one is handed out
--   over_alone       so what leaves for a frame depends on its own words, its order and the pattern of calls alone: frames do not leak, whatever the orders of the others are
use Prim.Native.Nat.{ℕ, zero, suc, ◌+◌, ◌^◌, ◌<◌, ◌≤◌}
use mathlib.Core.Path.{◌≡◌, sym, ap, ◌∙◌}
use mathlib.Core.Bool.{Bool, true, cond}
use mathlib.Core.List.{List}
use native.Mathlib.Omega.{arith}
use lib.ListN.{length, get_or}
use lib.Pow.{pow_pos, high, low}
use lib.Seq.{ext_get_or}
use Rattle.kinds.specs.Frame.{ticks, tick_of, port_of, word_at}
use Rattle.kinds.proofs.FrameLaws.{word_lt, in_order_at, in_order_is}
use Rattle.span.specs.Maps.{Bijection}
use Rattle.promise.specs.Series.{words_before, word_in, frame, words_of_tick, CompletedIn, TickDue, SamePattern}
use Rattle.promise.specs.Seen.{Seen, Leaves, RightOver}
use Rattle.promise.proofs.SeriesLaws.{before_none, before_more}

abbrev pub Whole : ℕ → (ℕ → Seen) → List (List ℕ) → Type 0
Whole k o S = (j : ℕ) → j < length S → length (o j).leaving ≡ cond (o j).handed (2 ^ k) 0

same_before : (S R : List (List ℕ)) → SamePattern S R → (j : ℕ) → j ≤ length S → words_before S j ≡ words_before R j
same_before S R same zero h = before_none S ∙ sym (before_none R)
same_before S R same (suc j) h =
    omega (arith, before_more S j h, before_more R j (omega (arith, same.calls)), same.counts j h, same_before S R same j (omega arith))

same_completed : {n F T : ℕ} (S R : List (List ℕ)) → SamePattern S R → CompletedIn n S F T → CompletedIn n R F T
same_completed {T = T} S R same completed = record {
  reached = rw (← same.calls) completed.reached;
  not_before = rw (← same_before S R same T (omega (arith, completed.reached))) completed.not_before;
  by_then = rw (← same_before S R same (suc T) completed.reached) completed.by_then;
}

module _ {d n k : ℕ} {P : ℕ → ℕ → ℕ} {o : ℕ → Seen} {S : List (List ℕ)} (right : RightOver d n k P o S) {F T : ℕ} (completed : CompletedIn n S F T) (c : ℕ) (reach : d + (T + 1 + c) < length S) where
  due_there : (p i : ℕ) → p < 2 ^ k → i < 2 ^ n → P F i ≡ word_at k c p → Leaves (o (d + (T + 1 + c))) p (word_in n S F i)
  due_there p i l h e =
      let tick : tick_of k (P F i) ≡ c = ap (tick_of k) e ∙ high c k l in
      let port : port_of k (P F i) ≡ p = ap (port_of k) e ∙ low c k l in
      rw port at (right.leaves F T i (d + (T + 1 + c)) completed h (ap (λ (b : ℕ). d + (T + 1 + b)) (sym tick)) reach)

  whole_by : Whole k o S → (i : ℕ) → i < 2 ^ n → P F i ≡ word_at k c 0 → length (o (d + (T + 1 + c))).leaving ≡ 2 ^ k
  whole_by whole i h e = whole (d + (T + 1 + c)) reach ∙ ap (λ (b : Bool). cond b (2 ^ k) 0) (due_there 0 i (pow_pos k) h e).handed

module _ {n k : ℕ} (within : k ≤ n) {Q : ℕ → ℕ} (places : Bijection Q (2 ^ n)) {c : ℕ} (early : c < ticks n k) where
  -- the word whose place it is
  word_of : (p : ℕ) → p < 2 ^ k → (i : ℕ) × (i < 2 ^ n) × (Q i ≡ word_at k c p)
  word_of p l = places.onto (word_at k c p) (word_lt within early l)

pub over_hands : {d n k : ℕ} → k ≤ n → {P : ℕ → ℕ → ℕ} → ((F : ℕ) → Bijection (P F) (2 ^ n)) → {o : ℕ → Seen} {S : List (List ℕ)} → RightOver d n k P o S → {j : ℕ} → TickDue d n k S j
    → j < length S → (o j).handed ≡ true
over_hands {k = k} within places {o} right (F, T, c, completed, early, then) reach =
    let (i, h, e) = word_of within (places F) early 0 (pow_pos k) in
    ap (λ (c : ℕ). (o c).handed) then ∙ (due_there right completed c (rw then at reach) 0 i (pow_pos k) h e).handed

module _ {d n k : ℕ} (within : k ≤ n) {P : ℕ → ℕ → ℕ} {F : ℕ} (places : Bijection (P F) (2 ^ n)) {c : ℕ} (early : c < ticks n k) {T : ℕ} {o : ℕ → Seen} {S : List (List ℕ)}
    (right : RightOver d n k P o S) (completed : CompletedIn n S F T) (reach : d + (T + 1 + c) < length S) (whole : Whole k o S) where
  whole_tick : length (o (d + (T + 1 + c))).leaving ≡ 2 ^ k
  whole_tick = let (i, h, e) = word_of within places early 0 (pow_pos k) in whole_by right completed c reach whole i h e

  pub over_tick : (l : List ℕ) → ((i : ℕ) → i < 2 ^ n → get_or l (P F i) 0 ≡ word_in n S F i) → (o (d + (T + 1 + c))).leaving ≡ words_of_tick k l c
  over_tick l moved = in_order_is (2 ^ k) (λ p. get_or l (word_at k c p) 0) 0 (o (d + (T + 1 + c))).leaving whole_tick (λ p b.
      let (i, h, e) = word_of within places early p b in
      (due_there right completed c reach p i b h e).word ∙ sym (moved i h) ∙ ap (λ (y : ℕ). get_or l y 0) e)

  pub over_alone : {Q : ℕ → ℕ → ℕ} {u : ℕ → Seen} {R : List (List ℕ)} → ((i : ℕ) → i < 2 ^ n → P F i ≡ Q F i) → RightOver d n k Q u R → Whole k u R → SamePattern S R → frame n S F ≡ frame n R F
      → (o (d + (T + 1 + c))).leaving ≡ (u (d + (T + 1 + c))).leaving
  over_alone {u = u} {R = R} agree also too same words =
      let other = same_completed S R same completed in
      let there : d + (T + 1 + c) < length R = rw (← same.calls) reach in
      let all_too = let (i, h, e) = word_of within places early 0 (pow_pos k) in whole_by also other c there too i h (sym (agree i h) ∙ e) in
      ext_get_or 0 (o (d + (T + 1 + c))).leaving (u (d + (T + 1 + c))).leaving (whole_tick ∙ sym all_too) (λ p b.
      let port : p < 2 ^ k = rw whole_tick at b in
      let (i, h, e) = word_of within places early p port in
      (due_there right completed c reach p i port h e).word
      ∙ sym (in_order_at (2 ^ n) (word_in n S F) 0 i h)
      ∙ ap (λ (l : List ℕ). get_or l i 0) words
      ∙ in_order_at (2 ^ n) (word_in n R F) 0 i h
      ∙ sym (due_there also other c there p i port h (sym (agree i h) ∙ e)).word)
