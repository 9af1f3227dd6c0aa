-- Laws of a side's map.
--   bank_parts          the bank of a word: what the wiring makes of its port, and the stages of its tick
--   same_bank           two words of one tick share a bank exactly when the wiring sends their ports to one bank
--   cell_word           the cell of the word at a tick and port is the map's
--   port_column, tick_column        the columns of a side's map, one by one
--   bank_lt, address_lt             banks and addresses are below 2^k and 2^t
--   bank_of_cell, address_of_cell   a cell number has the bank and the address of the word that is there
--   word_bank           the bank of the cell that the map gives a word
--   wiring_part         its port-to-bank part is the wiring
--   stages_part         its tick-to-bank part is the stages'
--   cell_lt             cells are below 2^n
--   cell_into           so a side's map goes into 2^n cells
--   cell_linear         a side's map is linear
--   cell_columns_law        so it is the image under its columns
--   cell_bijection      it is a bijection of the words and the cells exactly when its columns are independent
--   column_beyond       beyond the nth its columns would be 0
--   cell_double         one port bit more: one exclusive or
--   maps_linear         M and N are linear, of a sheet that keeps the layout
use Prim.Native.Nat.{ℕ, suc, ◌+◌, ◌-◌, ◌*◌, ◌^◌, ◌<◌, ◌≤◌}
use mathlib.Core.Path.{◌≡◌, sym, ap, ap₂, ◌∙◌}
use mathlib.Core.List.{List}
use mathlib.Core.Logic.{◌↔◌}
use native.Mathlib.Nat.{pow-suc, mod-eq_of_lt, div-eq_of_lt}
use native.Mathlib.Omega.{arith}
use lib.Arith.{digits_lt}
use lib.Bits.{bit_xor, xor_zero_r, xor_comm, xor_lt, xor_block, xor_shr, xor_mod}
use lib.ListN.{length, get_or, get_or-eq_default}
use lib.Pow.{pow_pos, pow-lt, pow_mono, split, high, low}
use Rattle.kinds.specs.Edition.{Edition}
use Rattle.kinds.specs.Frame.{tick_bits, tick_of, port_of, word_at, address_of, bank_of}
use Rattle.kinds.proofs.FrameLaws.{frame_whole, tick_unit}
use Rattle.bits.specs.Image.{image, AllBelow, Linear}
use Rattle.bits.proofs.XorLaws.{xor_above, xor_swap, xor_cancel}
use Rattle.bits.proofs.ImageLaws.{image_zero, image_xor, image_unit, image_lt, linear_image, linear_zero, columns_length, columns_below}
use Rattle.span.specs.Maps.{Bijection}
use Rattle.span.specs.Sums.{Independent}
use Rattle.span.specs.Rows.{dots}
use Rattle.span.proofs.Counting.{bijection_same}
use Rattle.span.proofs.SumLaws.{independent_bijection, bijection_independent}
use Rattle.sheet.specs.Sheet.{Side}
use Rattle.sheet.specs.Layout.{InRange, WellFormed}
use Rattle.switches.specs.Stages.{bank_after}
use Rattle.switches.specs.Cells.{address_at, bank_at, cell_at, cell_of, M, N, cell_columns, port_to_bank, tick_to_bank}
use Rattle.switches.proofs.StageLaws.{selected_linear, stages_sum, directions_below, selected_beyond, directions, controls, selected}

module _ (S : Side) where
  abbrev wired : ℕ → ℕ
  wired p = image S.wiring p

  port_bank : (p : ℕ) → bank_at S 0 p ≡ wired p
  port_bank p =
      stages_sum S.stages 0 (wired p)
      ∙ ap (bit_xor (wired p)) (linear_zero (selected S.stages) (selected_linear S.stages))
      ∙ xor_zero_r (wired p)

  tick_bank : (c : ℕ) → bank_at S c 0 ≡ selected S.stages c
  tick_bank c = stages_sum S.stages c (wired 0) ∙ ap (λ (b : ℕ). bit_xor b (selected S.stages c)) (image_zero S.wiring)

  pub bank_parts : (c p : ℕ) → bank_at S c p ≡ bit_xor (selected S.stages c) (wired p)
  bank_parts c p = stages_sum S.stages c (wired p) ∙ xor_comm (wired p) (selected S.stages c)

  pub same_bank : (c p q : ℕ) → bank_at S c p ≡ bank_at S c q ↔ wired p ≡ wired q
  same_bank c p q = (
    λ e.
        let tick = selected S.stages c in
        sym (xor_cancel tick (wired p)) ∙ ap (bit_xor tick) (sym (bank_parts c p) ∙ e ∙ bank_parts c q) ∙ xor_cancel tick (wired q),
    λ e. ap (bank_after S.stages c) e,
  )

  bank_linear : (c d p q : ℕ) → bank_at S (bit_xor c d) (bit_xor p q) ≡ bit_xor (bank_at S c p) (bank_at S d q)
  bank_linear c d p q =
      stages_sum S.stages (bit_xor c d) (wired (bit_xor p q))
      ∙ ap₂ bit_xor (image_xor S.wiring p q) (selected_linear S.stages c d)
      ∙ xor_swap (wired p) (wired q) (selected S.stages c) (selected S.stages d)
      ∙ sym (ap₂ bit_xor (stages_sum S.stages c (wired p)) (stages_sum S.stages d (wired q)))

module _ (k : ℕ) (S : Side) where
  pub cell_word : (c p : ℕ) → p < 2 ^ k → cell_at k S c p ≡ cell_of k S (word_at k c p)
  cell_word c p h = sym (ap₂ (cell_at k S) (high c k h) (low c k h))

  abbrev bank_of_law : ℕ → ℕ
  bank_of_law i = bank_at S (tick_of k i) (port_of k i)

  address_of_law : (i : ℕ) → address_at k S (tick_of k i) (port_of k i) ≡ image S.addresses i
  address_of_law i = ap (image S.addresses) (split i k)

  pub port_column : (j : ℕ) → j < k → cell_of k S (2 ^ j) ≡ get_or S.addresses j 0 * 2 ^ k + get_or S.wiring j 0
  port_column j h =
      let inside = pow-lt h in
      ap₂ (λ (a b : ℕ). a * 2 ^ k + b) (address_of_law (2 ^ j) ∙ image_unit S.addresses j)
      (ap₂ (bank_at S) (div-eq_of_lt inside) (mod-eq_of_lt inside) ∙ port_bank S (2 ^ j) ∙ image_unit S.wiring j)

  pub tick_column : (j : ℕ) → k ≤ j → cell_of k S (2 ^ j) ≡ get_or S.addresses j 0 * 2 ^ k + bank_after S.stages (2 ^ (j - k)) 0
  tick_column j h =
      let tick = ap (tick_of k) (sym (tick_unit h)) ∙ high (2 ^ (j - k)) k (pow_pos k) in
      let port = ap (port_of k) (sym (tick_unit h)) ∙ low (2 ^ (j - k)) k (pow_pos k) in
      ap₂ (λ (a b : ℕ). a * 2 ^ k + b) (address_of_law (2 ^ j) ∙ image_unit S.addresses j)
      (ap₂ (bank_at S) tick port ∙ ap (bank_after S.stages (2 ^ (j - k))) (image_zero S.wiring))

add_lt : (j k : ℕ) {p : ℕ} → j < k → p < 2 ^ j → 2 ^ j + p < 2 ^ k
add_lt j k h l = omega (arith, pow-suc 2 j, pow_mono {i = suc j} {j = k} h)

one_bit_more : (k c p j : ℕ) → 2 ^ j < 2 ^ k → p < 2 ^ j → word_at k c (2 ^ j + p) ≡ bit_xor (word_at k c p) (2 ^ j)
one_bit_more k c p j h l =
    sym (ap (bit_xor (word_at k c p)) (let e : 2 ^ j ≡ 0 * 2 ^ k + 2 ^ j = omega arith in e)
    ∙ xor_block k c 0 p (2 ^ j) (omega (arith, h)) h
    ∙ ap₂ (λ (a b : ℕ). a * 2 ^ k + b) (xor_zero_r c) (xor_above j p l))

module _ {n k : ℕ} {S : Side} (used : InRange n k S) where
  pub bank_lt : (c p : ℕ) → bank_at S c p < 2 ^ k
  bank_lt c p =
      rw (stages_sum S.stages c (wired S p))
      (xor_lt k (wired S p) (selected S.stages c) (image_lt k S.wiring used.wiring p)
      (image_lt k (directions S.stages) (directions_below k (2 ^ tick_bits n k) S.stages used.stages) (dots (controls S.stages) c)))

  pub address_lt : (c p : ℕ) → address_at k S c p < 2 ^ tick_bits n k
  address_lt c p = image_lt (tick_bits n k) S.addresses used.addresses (word_at k c p)

  pub bank_of_cell : (c p : ℕ) → bank_of k (cell_at k S c p) ≡ bank_at S c p
  bank_of_cell c p = low (address_at k S c p) k (bank_lt c p)

  pub address_of_cell : (c p : ℕ) → address_of k (cell_at k S c p) ≡ address_at k S c p
  address_of_cell c p = high (address_at k S c p) k (bank_lt c p)

  pub word_bank : (c p : ℕ) → p < 2 ^ k → bank_of k (cell_of k S (word_at k c p)) ≡ bank_at S c p
  word_bank c p h = ap (bank_of k) (sym (cell_word k S c p h)) ∙ bank_of_cell c p

  pub wiring_part : (p : ℕ) → p < 2 ^ k → port_to_bank k (cell_of k S) p ≡ image S.wiring p
  wiring_part p h = word_bank 0 p h ∙ port_bank S p

  pub stages_part : (c : ℕ) → tick_to_bank k (cell_of k S) c ≡ selected S.stages c
  stages_part c = word_bank c 0 (pow_pos k) ∙ tick_bank S c

  pub cell_lt : k ≤ n → (c p : ℕ) → cell_at k S c p < 2 ^ n
  cell_lt within c p = omega (arith, digits_lt (address_lt c p) (bank_lt c p), frame_whole within)

  pub cell_into : k ≤ n → (i : ℕ) → cell_of k S i < 2 ^ n
  cell_into within i = cell_lt within (tick_of k i) (port_of k i)

  pub cell_linear : Linear (cell_of k S)
  cell_linear x y =
      ap₂ (λ (a b : ℕ). a * 2 ^ k + b) address bank
      ∙ sym (xor_block k (image S.addresses x) (image S.addresses y) (bank_of_law k S x) (bank_of_law k S y) (bank_lt (tick_of k x) (port_of k x)) (bank_lt (tick_of k y) (port_of k y)))
      ∙ sym (ap₂ (λ (a b : ℕ). bit_xor (a * 2 ^ k + bank_of_law k S x) (b * 2 ^ k + bank_of_law k S y)) (address_of_law k S x) (address_of_law k S y))
    where
      address : address_at k S (tick_of k (bit_xor x y)) (port_of k (bit_xor x y)) ≡ bit_xor (image S.addresses x) (image S.addresses y)
      address = address_of_law k S (bit_xor x y) ∙ image_xor S.addresses x y

      bank : bank_of_law k S (bit_xor x y) ≡ bit_xor (bank_of_law k S x) (bank_of_law k S y)
      bank = ap₂ (bank_at S) (xor_shr x y k) (xor_mod x y k) ∙ bank_linear S (tick_of k x) (tick_of k y) (port_of k x) (port_of k y)

  pub cell_columns_law : (i : ℕ) → i < 2 ^ n → cell_of k S i ≡ image (cell_columns n k S) i
  cell_columns_law = linear_image n (cell_of k S) cell_linear

  pub cell_bijection : k ≤ n → Bijection (cell_of k S) (2 ^ n) ↔ Independent (cell_columns n k S)
  cell_bijection within = (
    λ b. bijection_independent n (cell_columns n k S) count (bijection_same (λ i h. sym (cell_columns_law i h)) b),
    λ ind. bijection_same cell_columns_law (independent_bijection n (cell_columns n k S) count below ind),
  )
    where
      count : length (cell_columns n k S) ≡ n
      count = columns_length n (cell_of k S)

      below : AllBelow (2 ^ n) (cell_columns n k S)
      below = columns_below n (2 ^ n) (cell_of k S) (λ j h. cell_into within (2 ^ j))

  pub column_beyond : k ≤ n → length S.addresses ≡ n → (j : ℕ) → n ≤ j → cell_of k S (2 ^ j) ≡ 0
  column_beyond within count j h =
      let address : get_or S.addresses j 0 ≡ 0 = get_or-eq_default S.addresses 0 (omega arith) in
      let bank : bank_after S.stages (2 ^ (j - k)) 0 ≡ 0 = stages_sum S.stages (2 ^ (j - k)) 0 ∙ selected_beyond (2 ^ k) (tick_bits n k) (j - k) S.stages used.stages (omega arith) in
      tick_column k S j (omega arith) ∙ rw (address, bank) (omega arith)

  pub cell_double : (c p j : ℕ) → j < k → p < 2 ^ j → cell_at k S c (2 ^ j + p) ≡ bit_xor (cell_at k S c p) (cell_of k S (2 ^ j))
  cell_double c p j h l =
      let below = pow-lt h in
      let sum = add_lt j k h l in
      cell_word k S c (2 ^ j + p) sum
      ∙ ap (cell_of k S) (one_bit_more k c p j below l)
      ∙ cell_linear (word_at k c p) (2 ^ j)
      ∙ ap (λ (x : ℕ). bit_xor x (cell_of k S (2 ^ j))) (sym (cell_word k S c p (omega (arith, below))))

pub maps_linear : {e : Edition} {n k : ℕ} {s : List ℕ} → WellFormed e n k s → Linear (M e n k s) × Linear (N e n k s)
maps_linear formed = (cell_linear formed.write.used, cell_linear formed.read.used)
