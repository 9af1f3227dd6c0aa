-- The planned write wiring sends no two ports to one bank. It is M's port-to-bank part: P1, and what the read stages add to it.
--   wiring_vanish       only port 0 is wired to bank 0: the rows of P1 that were kept get nothing added, so P1 sends the port to 0; then nothing is added
--                       to the others either, so P3 sends it to 0 too
use Prim.Native.Nat.{ℕ, ◌^◌, ◌<◌, ◌≤◌}
use mathlib.Core.Path.{◌≡◌, sym, ap, ◌∙◌}
use mathlib.Core.List.{List}
use Rattle.bits.specs.Parity.{bit}
use Rattle.bits.proofs.XorLaws.{xor_zero_eq}
use Rattle.span.specs.Scan.{units}
use Rattle.span.specs.Rows.{dots, taken_on}
use Rattle.span.proofs.RowLaws.{dots_lt}
use Rattle.span.proofs.ScanLaws.{kept_apart, over}
use Rattle.span.proofs.RowRankLaws.{vanish_at_kept}
use Rattle.span.proofs.TakenLaws.{taken_unit}
use Rattle.span.proofs.PositionLaws.{over_none, units_none, others_independent}
use Rattle.order.specs.Order.{Order}
use Rattle.parts.specs.Parts.{P1, P3, rows_p1, rows_p3}
use Rattle.parts.proofs.RowLaws.{dots_p1, dots_p3, parts_vanish}
use Rattle.switches.proofs.StageLaws.{selected}
use Rattle.construction.specs.Planned.{others_of_p1, ports_to_zero, kept_of_p3, read_stages_of}
use Rattle.construction.proofs.WithLaws.{wiring_with}
use Rattle.construction.proofs.ChoiceLaws.{zero_ports, as_many}
use Rattle.lay.proofs.PairLaws.{pairs_selected}

module _ {n : ℕ} (k : ℕ) {C : List ℕ} (within : k ≤ n) (o : Order n C) where
  abbrev is : List ℕ
  is = others_of_p1 k C

  abbrev js : List ℕ
  js = kept_of_p3 n k C

  -- the read stages take the bits j1, j2, .. of a tick to the bits i1, i2, .. of a bank
  read_selected : (c : ℕ) → selected (read_stages_of n k C) c ≡ over is (dots (units js) c)
  unfolding read_stages_of
  read_selected = pairs_selected (units is) (units js) (as_many k within o)

  module _ (p : ℕ) (h : p < 2 ^ k) (e : wiring_with k (read_stages_of n k C) C p ≡ 0) where
    abbrev bits : ℕ
    bits = dots (units js) (P3 k C p)

    from_bits : P1 k C p ≡ over is bits
    from_bits = sym (xor_zero_eq (selected (read_stages_of n k C) (P3 k C p)) (P1 k C p) e) ∙ read_selected (P3 k C p)

    rows_zero : dots (rows_p1 k C) p ≡ 0
    unfolding others_of_p1
    rows_zero =
        vanish_at_kept (rows_p1 k C) p
        (λ l g. ap (bit _) (dots_p1 k C p h ∙ from_bits) ∙ over_none is _ bits (λ m b. kept_apart (rows_p1 k C) l m g b))

    port_zero : P1 k C p ≡ 0
    port_zero = sym (dots_p1 k C p h) ∙ rows_zero

    bits_zero : bits ≡ 0
    unfolding others_of_p1
    bits_zero =
        others_independent (rows_p1 k C) bits (rw (as_many k within o) at (dots_lt (units js) (P3 k C p))) (sym from_bits ∙ port_zero)

    tick_zero : P3 k C p ≡ 0
    unfolding kept_of_p3
    tick_zero =
        let (l, b, same) = (zero_ports k C).1 p h rows_zero in
        let S = rows_p3 n k C in
        let taken = taken_on (ports_to_zero k C) S in
        let made : dots taken (2 ^ l) ≡ P3 k C p = taken_unit (ports_to_zero k C) S l b ∙ ap (dots S) same ∙ dots_p3 k within o p h in
        sym made ∙ vanish_at_kept taken (2 ^ l) (λ m g. ap (bit _) made ∙ units_none js (P3 k C p) bits_zero m g)

    pub wiring_vanish : p ≡ 0
    wiring_vanish = parts_vanish k within o p h port_zero tick_zero
