-- The sheet with any read stages in range: it is laid out, and it passes for its order if the wiring that is left to the write side sends no two ports to one bank.
--   wiring_with k ss C p  the port-to-bank part of M: P1, and what the read stages add to it
--   Wires k ss C         it sends no two ports to one bank
--   with_read_layable    the read side can be laid out
--   wires_vanish         a wiring that sends no two ports to one bank sends only port 0 to bank 0
--   with_read_map        the read side's map N, at tick c and port p: the cell has address c, and the stages change the bank
--   with_write_layable   the write side can be laid out
--   with_write_few       it has no more stages than a port has bits, or a tick
--   with_write, with_read    the sheet's sides
--   with_m               its M is N P
--   with_length, with_formed    it has the places of a sheet, and keeps the layout
--   with_passes          it passes, if the wiring vanishes at port 0 only
use Prim.Native.Nat.{ℕ, ◌^◌, ◌<◌, ◌≤◌, min}
use mathlib.Core.Path.{◌≡◌, sym, ap, ap₂, ◌∙◌}
use mathlib.Core.List.{List}
use native.Mathlib.Omega.{arith}
use lib.Bits.{bit_xor}
use lib.ListN.{length}
use lib.Pow.{pow-lt, pow_pos, split, high}
use Rattle.kinds.specs.Edition.{Edition, Sized, sheet_places}
use Rattle.kinds.specs.Frame.{ticks, tick_bits, tick_of, port_of, word_at}
use Rattle.kinds.proofs.FrameLaws.{tick_lt, port_lt, word_lt}
use Rattle.bits.specs.Image.{image, Linear, columns}
use Rattle.bits.proofs.XorLaws.{xor_cancel_right}
use Rattle.bits.proofs.ImageLaws.{image_xor, image_identity, image_shifted, linear_zero, columns_length, columns_below}
use Rattle.span.specs.Maps.{Bijection}
use Rattle.span.proofs.Counting.{injective_bijection, onto_bijection, bijection_same}
use Rattle.span.proofs.SumLaws.{independent_bijection}
use Rattle.order.specs.Order.{place, Order}
use Rattle.parts.specs.Parts.{P1, P3}
use Rattle.parts.proofs.PartLaws.{P1_linear, P1_into, P3_linear}
use Rattle.order.proofs.OrderLaws.{order_bijection}
use Rattle.sheet.specs.Sheet.{Side, write_side, read_side}
use Rattle.sheet.specs.declared.Stage.{Stage}
use Rattle.sheet.specs.Layout.{WellFormed}
use Rattle.sheet.proofs.LayLaws.{sheet_length, sheet_write, sheet_read, sheet_formed, Layable}
use Rattle.switches.specs.Cells.{bank_at, cell_at, cell_of, M, N}
use Rattle.switches.proofs.StageLaws.{selected_linear, stages_sum, selected}
use Rattle.switches.proofs.CellLaws.{bank_lt, cell_word, cell_into, cell_linear}
use Rattle.switches.proofs.WrittenLaws.{side_map, side_few, side_layable}
use Rattle.realise.specs.Agreement.{Invertible}
use Rattle.realise.specs.Realises.{Realises}
use Rattle.realise.proofs.RealiseLaws.{shares_invertible}
use Rattle.realise.proofs.BoundLaws.{port_part}
use Rattle.construction.specs.Planned.{StagesInRange, read_with, m_with, write_with, sheet_with}

abbrev pub wiring_with : ℕ → List Stage → List ℕ → ℕ → ℕ
wiring_with k ss C p = bit_xor (selected ss (P3 k C p)) (P1 k C p)

abbrev pub Wires : ℕ → List Stage → List ℕ → Type 0
Wires k ss C = (p q : ℕ) → p < 2 ^ k → q < 2 ^ k → wiring_with k ss C p ≡ wiring_with k ss C q → p ≡ q

pub with_read_layable : (e : Edition) (n k : ℕ) (ss : List Stage) → k ≤ n → StagesInRange n k ss → length ss ≤ e.most_stages → Layable e n k (read_with n k ss)
with_read_layable e n k ss within range few = record {
  addresses = columns_length n (tick_of k);
  wiring = columns_length k (λ p. p);
  stages = few;
  used = record {
    addresses = columns_below n (2 ^ tick_bits n k) (tick_of k) (λ j h. tick_lt within (pow-lt h));
    wiring = columns_below k (2 ^ k) (λ p. p) (λ j h. pow-lt h);
    stages = range;
  };
}

pub wires_vanish : (k : ℕ) (ss : List Stage) (C : List ℕ) → Wires k ss C → (p : ℕ) → p < 2 ^ k → wiring_with k ss C p ≡ 0 → p ≡ 0
wires_vanish k ss C wires p h e = wires p 0 h (pow_pos k) (e ∙ sym at_zero)
  where
    at_zero : wiring_with k ss C 0 ≡ 0
    at_zero =
        ap₂ (λ (c b : ℕ). bit_xor (selected ss c) b) (linear_zero (P3 k C) (P3_linear k C)) (linear_zero (P1 k C) (P1_linear k C))
        ∙ ap (λ (x : ℕ). bit_xor x 0) (linear_zero (selected ss) (selected_linear ss))

module _ {e : Edition} {n k : ℕ} {C : List ℕ} (sized : Sized e n k) (order : Order n C) (room : e.most_k ≤ e.most_stages)
    (ss : List Stage) (range : StagesInRange n k ss) (short : length ss ≤ e.most_stages) where
  within : k ≤ n
  within = omega (arith, sized.most)

  few : k ≤ e.most_stages
  few = omega (arith, sized.most)

  read_laid : Layable e n k (read_with n k ss)
  read_laid = with_read_layable e n k ss within range short

  abbrev read : ℕ → ℕ
  read = cell_of k (read_with n k ss)

  abbrev added : ℕ → ℕ
  added = selected ss

  read_bank : (c p : ℕ) → p < 2 ^ k → bank_at (read_with n k ss) c p ≡ bit_xor p (added c)
  read_bank c p h = stages_sum ss c (image (columns k (λ p. p)) p) ∙ ap (λ (b : ℕ). bit_xor b (added c)) (image_identity k p h)

  pub with_read_map : (c p : ℕ) → c < ticks n k → p < 2 ^ k → cell_at k (read_with n k ss) c p ≡ word_at k c (bit_xor p (added c))
  with_read_map c p tick port =
      ap₂ (word_at k)
      (image_shifted n k (word_at k c p) (word_lt within tick port) ∙ high c k port)
      (read_bank c p port)

  read_twice : (i : ℕ) → i < 2 ^ n → read (read i) ≡ i
  read_twice i h =
      let c = tick_of k i in
      let p = port_of k i in
      let tick = tick_lt within h in
      let port = port_lt k i in
      let bank : bit_xor p (added c) < 2 ^ k = rw (read_bank c p port) at (bank_lt read_laid.used c p) in
      ap read (with_read_map c p tick port)
      ∙ sym (cell_word k (read_with n k ss) c (bit_xor p (added c)) bank)
      ∙ with_read_map c (bit_xor p (added c)) tick bank
      ∙ ap (word_at k c) (xor_cancel_right p (added c))
      ∙ split i k

  read_linear : Linear read
  read_linear = cell_linear read_laid.used

  read_bijection : Bijection read (2 ^ n)
  read_bijection =
      let into = cell_into read_laid.used within in onto_bijection (λ i h. into i) (λ i h. (read i, into i, read_twice i h))

  with_linear : Linear (m_with n k ss C)
  with_linear x y = ap read (image_xor C x y) ∙ read_linear (place C x) (place C y)

  with_bijection : Bijection (m_with n k ss C) (2 ^ n)
  with_bijection =
      let places = order_bijection order in
      injective_bijection (λ i h. read_bijection.into (place C i) (places.into i h))
      (λ i j h l same. places.injective i j h l (read_bijection.injective (place C i) (place C j) (places.into i h) (places.into j l) same))

  read_wired : Invertible k (read_with n k ss)
  read_wired = bijection_same (image_identity k) (injective_bijection (λ p h. h) (λ p q h l same. same))

  pub with_write_layable : Layable e n k (write_with n k ss C)
  with_write_layable = side_layable n k (m_with n k ss C) within with_linear with_bijection.into e few

  pub with_write_few : length (write_with n k ss C).stages ≤ min k (tick_bits n k)
  with_write_few = side_few n k (m_with n k ss C) within with_linear with_bijection.into

  write_map : (i : ℕ) → i < 2 ^ n → cell_of k (write_with n k ss C) i ≡ m_with n k ss C i
  write_map = side_map n k (m_with n k ss C) within with_linear with_bijection.into

  abbrev sheet : List ℕ
  sheet = sheet_with e n k ss C

  pub with_write : write_side e n k sheet ≡ write_with n k ss C
  with_write = sheet_write e n k sized (write_with n k ss C) (read_with n k ss) with_write_layable read_laid

  pub with_read : read_side e n k sheet ≡ read_with n k ss
  with_read = sheet_read e n k sized (write_with n k ss C) (read_with n k ss) with_write_layable read_laid

  pub with_m : (i : ℕ) → i < 2 ^ n → M e n k sheet i ≡ m_with n k ss C i
  with_m i h = ap (λ (S : Side). cell_of k S i) with_write ∙ write_map i h

  with_n : (i : ℕ) → N e n k sheet i ≡ read i
  with_n i = ap (λ (S : Side). cell_of k S i) with_read

  pub with_length : length sheet ≡ sheet_places e
  with_length = sheet_length e n k sized (write_with n k ss C) (read_with n k ss) with_write_layable read_laid

  pub with_formed : WellFormed e n k sheet
  with_formed = sheet_formed e n k sized (write_with n k ss C) (read_with n k ss) with_write_layable read_laid

  module _ (vanish : (p : ℕ) → p < 2 ^ k → wiring_with k ss C p ≡ 0 → p ≡ 0) where
    write_wired : Invertible k (write_with n k ss C)
    write_wired =
        independent_bijection k (write_with n k ss C).wiring with_write_layable.wiring with_write_layable.used.wiring
        (λ p h none.
        let port : p < 2 ^ k = rw with_write_layable.wiring at h in
        vanish p port
        (ap (bit_xor (added (P3 k C p))) (sym (image_identity k (P1 k C p) (P1_into k C (2 ^ k) p port)))
        ∙ sym (port_part n k (write_with n k ss C) (read_with n k ss) C within with_write_layable.used read_laid.used write_map p port)
        ∙ none))

    pub with_passes : Realises e n k C sheet
    with_passes =
        let own = bijection_same with_m with_bijection in
        record {
          none_applies = (
            λ wrong. wrong (bijection_same (λ p h. ap (λ (S : Side). image S.wiring p) with_write) write_wired),
            (
              λ wrong. wrong (bijection_same (λ p h. ap (λ (S : Side). image S.wiring p) with_read) read_wired),
              ((shares_invertible n (M e n k sheet) own.into).0 own, (λ (i, h, differ). differ (with_m i h ∙ sym (with_n (place C i))), tt)),
            ),
          );
        }
