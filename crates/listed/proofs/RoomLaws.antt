-- There is room for every listing.
--   lamps_below       the words in lamp order are words of the frame
--   listing_fits      the listing of an order within the sizes has room
use Prim.Native.Nat.{ℕ, zero, suc, ◌+◌, ◌*◌, ◌^◌, ◌<◌, ◌≤◌}
use mathlib.Core.Path.{◌≡◌}
use mathlib.Core.List.{List, [], ◌∷◌, ◌++◌, flatten}
use native.Mathlib.Decide.{ℕ_discrete, dec_lt}
use native.Mathlib.Nat.{suc-mul}
use native.Mathlib.Omega.{arith}
use lib.ListN.{length, get_or, length-append, get_or-eq_default}
use lib.Pow.{pow_pos, pow_mono}
use Rattle.kinds.specs.Edition.{edition1, Sized}
use Rattle.kinds.specs.Frame.{ticks, tick_bits, word_at, in_order}
use Rattle.kinds.specs.Decided.{some_below}
use Rattle.kinds.specs.Search.{found}
use Rattle.kinds.proofs.FrameLaws.{frame_whole, in_order_length, in_order_at}
use Rattle.bits.specs.Image.{AllBelow}
use Rattle.bits.proofs.ImageLaws.{below_one, below_append}
use Rattle.text.specs.Decimal.{codes, decimal}
use Rattle.text.proofs.DecimalLaws.{decimal_length}
use Rattle.order.specs.Order.{place, Order}
use Rattle.sheet.specs.Sheet.{Side, flat}
use Rattle.sheet.specs.declared.Stage.{Stage}
use Rattle.sheet.specs.Layout.{StageInRange, EachStage}
use Rattle.sheet.proofs.LayLaws.{flat_length, Layable}
use Rattle.promise.specs.Series.{words_of_tick}
use Rattle.construction.specs.Planned.{planned_read, planned_write}
use Rattle.construction.proofs.ChoiceLaws.{read_layable}
use Rattle.construction.proofs.PlannedLaws.{write_layable}
use Rattle.trial.specs.Trial.{word_at_place, words_as_they_leave}
use Rattle.lines.specs.Line.{line}
use Rattle.lines.proofs.LineLaws.{spaced_length, line_length}
use Rattle.listed.specs.Listing.{stage_line, tick_line, listing}
use Rattle.listed.specs.Tool.{text_places}

-- ---- the stages

stage_numbers : (p q : ℕ) (ss : List Stage) → p ≤ 1000 → q ≤ 1000 → EachStage (StageInRange p q) ss → AllBelow 1000 (flat ss)
stage_numbers p q [] ports ticks each j h = absurd (omega arith)
stage_numbers p q (s ∷ ss) ports ticks (this, each) zero h = omega (arith, this.direction.most)
stage_numbers p q (s ∷ ss) ports ticks (this, each) (suc zero) h = omega (arith, this.control.most)
stage_numbers p q (s ∷ ss) ports ticks (this, each) (suc (suc j)) h = stage_numbers p q ss ports ticks each j (omega arith)

module _ {n k : ℕ} (sized : Sized edition1 n k) where
  few_ports : 2 ^ k ≤ 32
  few_ports = pow_mono {i = k} {j = 5} (omega (arith, sized.most))

  few_ticks : ticks n k ≤ 512
  few_ticks = pow_mono {i = tick_bits n k} {j = 9} (omega (arith, sized.least, sized.frame.most))

  few_words : 2 ^ n ≤ 1024
  few_words = pow_mono {i = n} {j = 10} sized.frame.most

  whole : ticks n k * 2 ^ k ≡ 2 ^ n
  whole = frame_whole (omega (arith, sized.most))

  stage_line_law : (name : List ℕ) (S : Side) → Layable edition1 n k S → length (stage_line name S.stages) ≤ length name + 69
  stage_line_law name S s =
      let numbers = length S.stages ∷ flat S.stages in
      let below = below_append 1000 (length S.stages ∷ []) (flat S.stages) (below_one 1000 (length S.stages) (omega (arith, s.stages)))
      (stage_numbers (2 ^ k) (ticks n k) S.stages (omega (arith, few_ports)) (omega (arith, few_ticks)) s.used.stages) in
      omega (arith, line_length name numbers, spaced_length 3 numbers (omega arith) below, flat_length S.stages, s.stages)

  order_line : length (line (codes "order") (n ∷ k ∷ [])) ≤ 12
  unfolding codes
  order_line =
      let below = below_append 100 (n ∷ []) (k ∷ []) (below_one 100 n (omega (arith, sized.frame.most))) (below_one 100 k (omega (arith, sized.most))) in
      omega (arith, line_length (codes "order") (n ∷ k ∷ []), spaced_length 2 (n ∷ k ∷ []) (omega arith) below)

-- ---- the words

found_below : {P : ℕ → Type 0} {n : ℕ} (d : Dec ((i : ℕ) × (i < n) × P i)) → 1 ≤ n → found d < n
found_below (yes (i, h, p)) some = h
found_below (no not) some = some

pub lamps_below : (n : ℕ) (C : List ℕ) (q : ℕ) → get_or (words_as_they_leave n C) q 0 < 2 ^ n
lamps_below n C q = elim (dec_lt q (2 ^ n)) [
  | yes h ↦ rw (in_order_at (2 ^ n) (word_at_place n C) 0 q h) (found_below (some_below (λ i. ℕ_discrete (place C i) q) (2 ^ n)) (pow_pos n))
  | no h ↦ rw (get_or-eq_default (words_as_they_leave n C) 0 {n = q} (omega (arith, in_order_length (2 ^ n) (word_at_place n C)))) (pow_pos n)
]

module _ (k : ℕ) (l : List ℕ) (c : ℕ) where
  tick_length : length (words_of_tick k l c) ≡ 2 ^ k
  tick_length = in_order_length (2 ^ k) (λ p. get_or l (word_at k c p) 0)

  tick_below : (b : ℕ) → ((q : ℕ) → get_or l q 0 < b) → AllBelow b (words_of_tick k l c)
  tick_below b each p h = rw (in_order_at (2 ^ k) (λ p. get_or l (word_at k c p) 0) 0 p (omega (arith, tick_length))) (each (word_at k c p))

lines_length : (b m : ℕ) (f : ℕ → List ℕ) → ((c : ℕ) → c < m → length (f c) ≤ b) → length (flatten (in_order m f)) ≤ m * b
unfolding flatten in_order
lines_length b zero f each = omega arith
lines_length b (suc m) f each =
    let rest = lines_length b m (λ c. f (suc c)) (λ c h. each (suc c) (omega arith)) in
    omega (arith, each 0 (omega arith), length-append (f 0) (flatten (in_order m (λ c. f (suc c)))), suc-mul m b)

module _ {n k : ℕ} {C : List ℕ} (sized : Sized edition1 n k) (order : Order n C) where
  abbrev lamps : List ℕ
  lamps = words_as_they_leave n C

  tick_line_law : (c : ℕ) → c < ticks n k → length (tick_line k lamps c) ≤ 5 + 5 * 2 ^ k
  unfolding codes
  tick_line_law c h =
      let words = words_of_tick k lamps c in
      let below = tick_below k lamps c 10000 (λ q. omega (arith, lamps_below n C q, few_words sized)) in
      let label = decimal_length 3 c (omega arith) (omega (arith, few_ticks sized)) in
      omega (arith, line_length (decimal c ++ codes ":") words, length-append (decimal c) (codes ":"), spaced_length 4 words (omega arith) below, tick_length k lamps c)

  pub listing_fits : length (listing n k C) ≤ text_places
  unfolding codes
  listing_fits =
      let sizes = line (codes "order") (n ∷ k ∷ []) in
      let write = stage_line (codes "write") (planned_write n k C).stages in
      let read = stage_line (codes "read") (planned_read n k C).stages in
      let out = flatten (in_order (ticks n k) (tick_line k lamps)) in
      let write_line = stage_line_law sized (codes "write") (planned_write n k C) (write_layable sized order (omega arith)) in
      let read_line = stage_line_law sized (codes "read") (planned_read n k C) (read_layable k (omega (arith, sized.most)) order edition1 (omega (arith, sized.most))) in
      let tick_lines_law = lines_length (5 + 5 * 2 ^ k) (ticks n k) (tick_line k lamps) tick_line_law in
      omega (arith, order_line sized, length-append sizes (write ++ (read ++ out)), length-append write (read ++ out), length-append read out, whole sized, few_ticks sized, few_words sized)
