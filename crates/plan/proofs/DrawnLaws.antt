-- The write side's columns, one by one, from the order's (M = N P).
--   addresses_drawn     the address columns are the ticks of the order's columns
--   wiring_drawn        the wiring is the banks of the first k of them, through the read stages
--   tick_part_drawn     the tick-to-bank part is the banks of the others
use Prim.Native.Nat.{ℕ, ◌+◌, ◌-◌, ◌^◌, ◌<◌, ◌≤◌}
use mathlib.Core.Path.{◌≡◌, sym, ap, ◌∙◌}
use mathlib.Core.List.{List, map}
use native.Mathlib.Nat.{add-sub_cancel_left}
use native.Mathlib.Omega.{arith}
use lib.ListN.{length, get_or, take, drop, length-map, length-take, length-drop}
use lib.Pow.{pow-add, split}
use lib.Seq.{get_or-take, get_or-drop, ext_get_or, take_all}
use Rattle.kinds.specs.Frame.{tick_bits, tick_of, port_of, word_at, address_of, bank_of}
use Rattle.kinds.proofs.FrameLaws.{port_lt, tick_unit}
use Rattle.bits.specs.Image.{image, columns}
use Rattle.bits.proofs.ImageLaws.{image_unit, image_lt, image_identity, image_shifted, columns_length, columns_at}
use Rattle.span.proofs.ScanLaws.{map_at}
use Rattle.order.specs.Order.{place, Order}
use Rattle.sheet.specs.declared.Stage.{Stage}
use Rattle.sheet.specs.Layout.{InRange}
use Rattle.switches.specs.Stages.{bank_after}
use Rattle.switches.specs.Cells.{port_to_bank, tick_to_bank}
use Rattle.switches.proofs.CellLaws.{address_of_cell, bank_of_cell}
use Rattle.construction.specs.Planned.{read_with, m_with}
use Rattle.plan.specs.Inside.{bank_through}

module _ (n k : ℕ) (ss : List Stage) (C : List ℕ) (within : k ≤ n) (order : Order n C) (read : InRange n k (read_with n k ss)) where
  abbrev f : ℕ → ℕ
  f = m_with n k ss C

  -- the address and the bank of the cell that M gives word 2^j
  address_column : (j : ℕ) → address_of k (f (2 ^ j)) ≡ tick_of k (get_or C j 0)
  address_column j =
      let x : ℕ = place C (2 ^ j) in
      address_of_cell read (tick_of k x) (port_of k x)
      ∙ ap (image (columns n (tick_of k))) (split x k)
      ∙ image_shifted n k x (image_lt n C order.below (2 ^ j))
      ∙ ap (tick_of k) (image_unit C j)

  bank_column : (j : ℕ) → bank_of k (f (2 ^ j)) ≡ bank_through k ss (get_or C j 0)
  bank_column j =
      let x : ℕ = place C (2 ^ j) in
      bank_of_cell read (tick_of k x) (port_of k x)
      ∙ ap (bank_after ss (tick_of k x)) (image_identity k (port_of k x) (port_lt k x))
      ∙ ap (bank_through k ss) (image_unit C j)

  abbrev banks : List ℕ
  banks = map (bank_through k ss) C

  pub addresses_drawn : map (tick_of k) C ≡ columns n (λ i. address_of k (f i))
  addresses_drawn =
      ext_get_or 0 (map (tick_of k) C) (columns n (λ i. address_of k (f i))) (length-map C (tick_of k) ∙ order.count ∙ sym (columns_length n (λ i. address_of k (f i))))
      (λ j h.
      let l : j < length C = rw length-map at h in
      map_at (tick_of k) C j l ∙ sym (address_column j) ∙ sym (columns_at n (λ i. address_of k (f i)) j (omega (arith, order.count))))

  -- the banks from column a on are the columns of a part of M that sends 2^j where M sends 2^(a + j)
  part_drawn : (a m : ℕ) (g : ℕ → ℕ) → a + m ≤ n → ((j : ℕ) → g (2 ^ j) ≡ bank_of k (f (2 ^ (a + j)))) → take m (drop a banks) ≡ columns m g
  part_drawn a m g inside same =
      let few : length banks ≡ n = length-map C (bank_through k ss) ∙ order.count in
      let size : length (take m (drop a banks)) ≡ m = omega (arith, length-take m (drop a banks), length-drop a banks, few) in
      ext_get_or 0 (take m (drop a banks)) (columns m g) (size ∙ sym (columns_length m g))
      (λ j h.
      let l : j < m = omega (arith, size) in
      get_or-take m (drop a banks) j 0 l
      ∙ get_or-drop a banks j 0
      ∙ map_at (bank_through k ss) C (a + j) (omega (arith, order.count))
      ∙ sym (bank_column (a + j))
      ∙ sym (same j)
      ∙ sym (columns_at m g j l))

  pub wiring_drawn : take k banks ≡ columns k (port_to_bank k f)
  wiring_drawn =
      part_drawn 0 k (port_to_bank k f) (omega arith)
      (λ j. ap (λ (x : ℕ). bank_of k (f x)) (let e : word_at k 0 (2 ^ j) ≡ 2 ^ (0 + j) = omega (arith, pow-add 2 0 j) in e))

  pub tick_part_drawn : drop k banks ≡ columns (tick_bits n k) (tick_to_bank k f)
  tick_part_drawn =
      sym (take_all (n - k) (drop k banks) (omega (arith, length-drop k banks, length-map C (bank_through k ss), order.count)))
      ∙ part_drawn k (n - k) (tick_to_bank k f) (omega arith)
      (λ j. ap (λ (x : ℕ). bank_of k (f x)) (rw (add-sub_cancel_left k j) at (tick_unit {k = k} {j = k + j} (omega arith))))
