-- The rows of P1 and of P3 together: they are the rows of the order's first k columns, and tell the ports apart.
--   dots_p1, dots_p3    what the rows of P1 and of P3 make of a port is what P1 and P3 do
--   parts_vanish        only port 0 is sent to port 0 and tick 0
--   rows_rank           so only port 0 vanishes on all these rows, and their rank is k
--   P1_count, P3_count  how many rows each has
--   rows_together       the rows of the first k columns are the rows of P1 and then those of P3
use Prim.Native.Nat.{ℕ, ◌+◌, ◌-◌, ◌^◌, ◌<◌, ◌≤◌}
use mathlib.Core.Path.{◌≡◌, sym, ap, ◌∙◌}
use mathlib.Core.List.{List, ◌++◌}
use native.Mathlib.Decide.{dec_lt}
use native.Mathlib.Omega.{arith}
use lib.ListN.{length, get_or, take, length-append, length-take, get_or-append}
use lib.Pow.{pow_mono, split}
use lib.Seq.{get_or-take, get_or-append-add, ext_get_or}
use Rattle.kinds.specs.Frame.{tick_bits, word_at}
use Rattle.bits.specs.Image.{columns}
use Rattle.bits.specs.Parity.{bit}
use Rattle.bits.proofs.ImageLaws.{below_append, image_unit, columns_length, columns_at}
use Rattle.bits.proofs.ParityLaws.{by_bits, bit_low, bit_high}
use Rattle.span.specs.Scan.{rank}
use Rattle.span.specs.Rows.{dots, rows}
use Rattle.span.proofs.RowLaws.{vanish_append, rows_length, rows_below, rows_bit}
use Rattle.span.proofs.RowRankLaws.{rank_full}
use Rattle.order.specs.Order.{place, Order}
use Rattle.parts.specs.Parts.{P1, P3, rows_of, rows_p1, rows_p3}
use Rattle.parts.proofs.PartLaws.{P1_linear, P3_linear, P1_into, P3_into, rows_of_length, rows_of_below, rows_of_dots}

pub dots_p1 : (k : ℕ) (C : List ℕ) (p : ℕ) → p < 2 ^ k → dots (rows_p1 k C) p ≡ P1 k C p
dots_p1 k C = rows_of_dots k k (P1 k C) (P1_linear k C) (P1_into k C (2 ^ k))

module _ {n : ℕ} (k : ℕ) {C : List ℕ} (within : k ≤ n) (o : Order n C) where
  pub dots_p3 : (p : ℕ) → p < 2 ^ k → dots (rows_p3 n k C) p ≡ P3 k C p
  dots_p3 = rows_of_dots (tick_bits n k) k (P3 k C) (P3_linear k C) (P3_into k C o within (2 ^ k))

  pub parts_vanish : (p : ℕ) → p < 2 ^ k → P1 k C p ≡ 0 → P3 k C p ≡ 0 → p ≡ 0
  parts_vanish p h port tick =
      let below : word_at k 0 p < 2 ^ length C = rw o.count (omega (arith, pow_mono within)) in
      omega (arith, o.independent (word_at k 0 p) below (sym (split (place C (word_at k 0 p)) k) ∙ rw (port, tick) (omega arith)))

  rows_vanish : (p : ℕ) → p < 2 ^ k → dots (rows_p1 k C ++ rows_p3 n k C) p ≡ 0 → p ≡ 0
  rows_vanish p h e =
      let (port, tick) = vanish_append (rows_p1 k C) (rows_p3 n k C) p e in
      parts_vanish p h (sym (dots_p1 k C p h) ∙ port) (sym (dots_p3 p h) ∙ tick)

  pub rows_rank : rank (rows_p1 k C ++ rows_p3 n k C) ≡ k
  rows_rank =
      rank_full k (rows_p1 k C ++ rows_p3 n k C)
      (below_append (2 ^ k) (rows_p1 k C) (rows_p3 n k C) (rows_of_below k k (P1 k C)) (rows_of_below (tick_bits n k) k (P3 k C)))
      rows_vanish

pub P1_count : (k : ℕ) (C : List ℕ) → length (rows_p1 k C) ≡ k
P1_count k C = rows_of_length k k (P1 k C)

pub P3_count : (n k : ℕ) (C : List ℕ) → length (rows_p3 n k C) ≡ tick_bits n k
P3_count n k C = rows_of_length (tick_bits n k) k (P3 k C)

module _ (n k : ℕ) (C : List ℕ) (within : k ≤ n) (count : length C ≡ n) where
  abbrev R : List ℕ
  R = rows_p1 k C

  abbrev S : List ℕ
  S = rows_p3 n k C

  few : length (take k C) ≡ k
  few = omega (arith, length-take k C, count)

  -- bit j of a row is a bit of column j
  column : (j : ℕ) → j < k → place C (word_at k 0 (2 ^ j)) ≡ get_or (take k C) j 0
  column j h = ap (place C) (let e : word_at k 0 (2 ^ j) ≡ 2 ^ j = omega arith in e) ∙ image_unit C j ∙ sym (get_or-take k C j 0 h)

  row_bit : (m r j : ℕ) (f : ℕ → ℕ) → r < m → j < k → bit j (get_or (rows_of m k f) r 0) ≡ bit r (f (2 ^ j))
  row_bit m r j f h l = rows_bit m (columns k f) r j h (rw (columns_length k f) l) ∙ ap (bit r) (columns_at k f j l)

  -- row i of the first k columns is row r of a part whose bit r is bit i of the place
  same_as : (m r i : ℕ) (f : ℕ → ℕ) → r < m → i < n → ((p : ℕ) → bit r (f p) ≡ bit i (place C (word_at k 0 p)))
      → get_or (rows n (take k C)) i 0 ≡ get_or (rows_of m k f) r 0
  same_as m r i f l h same =
      by_bits k (get_or (rows n (take k C)) i 0) (get_or (rows_of m k f) r 0) (rw few at (rows_below n (take k C) i (rw (rows_length n (take k C)) h)))
      (rows_of_below m k f r (rw (rows_of_length m k f) l))
      (λ j b. rows_bit n (take k C) i j h (rw few b) ∙ sym (row_bit m r j f l b ∙ same (2 ^ j) ∙ ap (bit i) (column j b)))

  same_row : (i : ℕ) → i < n → get_or (rows n (take k C)) i 0 ≡ get_or (R ++ S) i 0
  same_row i h = elim (dec_lt i k) [
    | yes l ↦ same_as k i i (P1 k C) l h (λ p. bit_low i k (place C (word_at k 0 p)) l) ∙ sym (get_or-append R S 0 i (rw (P1_count k C) l))
    | no l ↦
        let r : ℕ = i - k in
        let here : k + r ≡ i = omega arith in
        same_as (tick_bits n k) r i (P3 k C) (omega arith) h (λ p. rw here at (bit_high r k (place C (word_at k 0 p))))
        ∙ sym (ap (λ (x : ℕ). get_or (R ++ S) x 0) (let e : i ≡ length R + r = omega (arith, P1_count k C) in e) ∙ get_or-append-add R S r 0)
  ]

  pub rows_together : rows n (take k C) ≡ R ++ S
  rows_together =
      ext_get_or 0 (rows n (take k C)) (R ++ S) (rows_length n (take k C) ∙ sym (length-append R S ∙ omega (arith, P1_count k C, P3_count n k C)))
      (λ i h. same_row i (rw rows_length at h))
