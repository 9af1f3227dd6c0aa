-- The four parts make up the order, and each is known by its rows.
--   place_parts            where the word at tick c and port p leaves: the parts of c and the parts of p together
--   P1_linear, P2_linear, P3_linear, P4_linear    each part is linear
--   P1_into, P2_into, P3_into, P4_into            and sends port bits or tick bits to port bits or tick bits
--   rows_of_dot             row r of a linear map is bit r of its result
--   rows_of_length          there are as many rows as its result has bits
--   rows_of_below           the rows of a map of l bits have l bits
--   rows_of_dots            all rows make of x what the map does
use Prim.Native.Nat.{ℕ, ◌+◌, ◌^◌, ◌<◌, ◌≤◌}
use mathlib.Core.Path.{◌≡◌, sym, ap, ap₂, ◌∙◌}
use mathlib.Core.List.{List}
use native.Mathlib.Omega.{arith}
use lib.Bits.{bit_xor, xor_zero_r, xor_block, xor_shr, xor_mod}
use lib.ListN.{length, get_or}
use lib.Pow.{pow_pos, pow-lt, shr_lt, split}
use Rattle.kinds.proofs.FrameLaws.{port_lt}
use Rattle.kinds.specs.Frame.{tick_bits, tick_of, port_of, word_at}
use Rattle.bits.specs.Image.{Linear, columns, AllBelow}
use Rattle.bits.specs.Parity.{bit, dot}
use Rattle.bits.proofs.ImageLaws.{image_xor, image_lt, linear_image, columns_below, columns_length}
use Rattle.span.specs.Maps.{Into}
use Rattle.span.specs.Rows.{dots}
use Rattle.span.proofs.RowLaws.{row_dot, rows_length, rows_below, rows_image}
use Rattle.order.specs.Order.{place, Order}
use Rattle.parts.specs.Parts.{P1, P2, P3, P4, rows_of}

port_linear : (k : ℕ) (f : ℕ → ℕ) → Linear f → Linear (λ x. port_of k (f x))
port_linear k f l x y = ap (port_of k) (l x y) ∙ xor_mod (f x) (f y) k

tick_linear : (k : ℕ) (f : ℕ → ℕ) → Linear f → Linear (λ x. tick_of k (f x))
tick_linear k f l x y = ap (tick_of k) (l x y) ∙ xor_shr (f x) (f y) k

at_port : (k p : ℕ) → word_at k 0 p ≡ p
at_port k p = omega arith

by_tick_and_port : (k a b : ℕ) → bit_xor a b ≡ word_at k (bit_xor (tick_of k a) (tick_of k b)) (bit_xor (port_of k a) (port_of k b))
by_tick_and_port k a b =
    sym (ap₂ bit_xor (split a k) (split b k))
    ∙ xor_block k (tick_of k a) (tick_of k b) (port_of k a) (port_of k b) (port_lt k a) (port_lt k b)

module _ (k : ℕ) (C : List ℕ) where
  abbrev of_port : ℕ → ℕ
  of_port p = place C (word_at k 0 p)

  abbrev of_tick : ℕ → ℕ
  of_tick c = place C (word_at k c 0)

  pub place_parts : (c p : ℕ) → p < 2 ^ k
      → place C (word_at k c p) ≡ word_at k (bit_xor (P4 k C c) (P3 k C p)) (bit_xor (P2 k C c) (P1 k C p))
  place_parts c p h =
      ap (λ (x : ℕ). place C (word_at k x p)) (sym (xor_zero_r c))
      ∙ ap (place C) (sym (xor_block k c 0 0 p (pow_pos k) h))
      ∙ image_xor C (word_at k c 0) (word_at k 0 p)
      ∙ by_tick_and_port k (of_tick c) (of_port p)

  of_port_linear : Linear of_port
  of_port_linear p q = rw (at_port k (bit_xor p q), at_port k p, at_port k q) (image_xor C p q)

  of_tick_linear : Linear of_tick
  of_tick_linear c d =
      ap (place C) (sym (xor_block k c d 0 0 (pow_pos k) (pow_pos k))) ∙ image_xor C (word_at k c 0) (word_at k d 0)

  pub P1_linear : Linear (P1 k C)
  P1_linear = port_linear k of_port of_port_linear

  pub P2_linear : Linear (P2 k C)
  P2_linear = port_linear k of_tick of_tick_linear

  pub P3_linear : Linear (P3 k C)
  P3_linear = tick_linear k of_port of_port_linear

  pub P4_linear : Linear (P4 k C)
  P4_linear = tick_linear k of_tick of_tick_linear

  pub P1_into : (a : ℕ) → Into (P1 k C) a (2 ^ k)
  P1_into a p h = port_lt k (of_port p)

  pub P2_into : (a : ℕ) → Into (P2 k C) a (2 ^ k)
  P2_into a c h = port_lt k (of_tick c)

  module _ {n : ℕ} (o : Order n C) (within : k ≤ n) where
    early : (x : ℕ) → tick_of k (place C x) < 2 ^ tick_bits n k
    early x =
        let all : tick_bits n k + k ≡ n = omega arith in
        shr_lt (tick_bits n k) k (rw all (image_lt n C o.below x))

    pub P3_into : (a : ℕ) → Into (P3 k C) a (2 ^ tick_bits n k)
    P3_into a p h = early (word_at k 0 p)

    pub P4_into : (a : ℕ) → Into (P4 k C) a (2 ^ tick_bits n k)
    P4_into a c h = early (word_at k c 0)

pub rows_of_dot : (m l : ℕ) (f : ℕ → ℕ) → Linear f → Into f (2 ^ l) (2 ^ m) → (r x : ℕ) → r < m → x < 2 ^ l
    → dot (get_or (rows_of m l f) r 0) x ≡ bit r (f x)
rows_of_dot m l f linear into r x h b =
    row_dot m (columns l f) (columns_below l (2 ^ m) f (λ j g. into (2 ^ j) (pow-lt g))) x r h
    ∙ ap (bit r) (sym (linear_image l f linear x b))

pub rows_of_length : (m l : ℕ) (f : ℕ → ℕ) → length (rows_of m l f) ≡ m
rows_of_length m l f = rows_length m (columns l f)

pub rows_of_below : (m l : ℕ) (f : ℕ → ℕ) → AllBelow (2 ^ l) (rows_of m l f)
rows_of_below m l f = rw columns_length at (rows_below m (columns l f))

pub rows_of_dots : (m l : ℕ) (f : ℕ → ℕ) → Linear f → Into f (2 ^ l) (2 ^ m) → (x : ℕ) → x < 2 ^ l → dots (rows_of m l f) x ≡ f x
rows_of_dots m l f linear into x h =
    rows_image m (columns l f) (columns_below l (2 ^ m) f (λ j g. into (2 ^ j) (pow-lt g))) x ∙ sym (linear_image l f linear x h)
