use Rattle.std.proofs.Common.{ℕ, ◌≡◌, ◌≢◌, ◌+◌, ◌*◌, ◌%◌, ◌^◌, ◌<◌, List, get_or, bit_xor, sym, ap, ◌∙◌, arith, below_more, pow_pos, mod-lt}
use native.Mathlib.Decide.{ℕ_discrete}
use lib.Pow.{pow-lt}
use Rattle.bits.specs.Parity.{bit}
use Rattle.bits.proofs.ParityLaws.{bit_xor_law, bit_same, bit_other}
use Rattle.faults.specs.Inside.{most_banks}
use Rattle.faults.proofs.banks_differ.Invariants.{bank_at, Passed}
use Rattle.faults.proofs.banks_differ.Goals as goal

module _ {k : ℕ} {cs : List ℕ} {seen p b : ℕ} (i : Passed k cs seen p) (bank : b ≡ bank_at k cs p)
    (small : bank_at k cs p < most_banks) (new : bit b seen ≢ 1) where
  abbrev next : ℕ
  next = bit_xor seen (1 * 2 ^ b % 2 ^ 64)

  bit_next : (l : ℕ) → bit l next ≡ (bit l seen + bit l (2 ^ b)) % 2
  bit_next l = let unit : 1 * 2 ^ b % 2 ^ 64 ≡ 2 ^ b = omega (arith, pow-lt {i = b} {j = 64} (omega arith)) in rw unit (bit_xor_law l seen (2 ^ b))

  set : bit b next ≡ 1
  set = omega (arith, bit_next b, bit_same b)

  kept : (l : ℕ) → l ≢ b → bit l next ≡ bit l seen
  kept l n = omega (arith, bit_next l, bit_other l b n)

  fresh : (j : ℕ) → j < p → bank_at k cs j ≢ b
  fresh j l e = new (ap (λ (x : ℕ). bit x seen) (sym e) ∙ i.bits j l)

  more : Passed k cs next (p + 1)
  more = record {
    bits = below_more _ p (λ j l. kept (bank_at k cs j) (fresh j l) ∙ i.bits j l) (ap (λ (x : ℕ). bit x next) (sym bank) ∙ set);
    ports = λ l e. elim (ℕ_discrete l b) [
      | yes same ↦ (p, omega arith, sym (same ∙ bank))
      | no differs ↦ let (j, h, same) = i.ports l (sym (kept l differs) ∙ e) in (j, omega arith, same)
    ];
    apart = below_more _ p i.apart (λ j (l, same). fresh j l (same ∙ sym bank));
  }

pub loop-cell-preserved : goal.loop-cell-preserved
loop-cell-preserved c =
    let cell = get_or c.args.cells.now c.loop-cell.cell-index 0 in
    more
    c.loop-cell.invariant
    (c.bank_bits-mask.ensures cell (omega (arith, c.type_inv.cells c.loop-cell.cell-index)))
    (omega (arith, mod-lt cell (pow_pos c.args.k), c.requires))
    (λ e. omega arith)
