use Rattle.std.proofs.Common.{ℕ, ◌≡◌, ◌+◌, ◌%◌, ◌/◌, sym, ap, ◌∙◌, arith, add_assoc}
use native.Mathlib.Nat.{add-mod-mod, mod-add-mod}
use Rattle.bits.specs.Parity.{parity}
use Rattle.bits.proofs.ParityLaws.{parity_lt, parity_zero, parity_step}
use Rattle.bits.proofs.parity.Invariants.{Counted}
use Rattle.bits.proofs.parity.Goals as goal

more : {x odd rest : ℕ} → Counted x odd rest → Counted x ((odd + rest % 2) % 2) (rest / 2)
more {x} {odd} {rest} i = record {
  low = omega arith;
  whole =
      i.whole
      ∙ ap (λ (p : ℕ). (odd + p) % 2) (parity_step rest)
      ∙ add-mod-mod odd (rest + parity (rest / 2)) 2
      ∙ ap (λ (p : ℕ). p % 2) (sym (add_assoc odd rest (parity (rest / 2))))
      ∙ sym (mod-add-mod (odd + rest) 2 (parity (rest / 2)))
      ∙ ap (λ (p : ℕ). (p + parity (rest / 2)) % 2) (sym (add-mod-mod odd rest 2));
}

done : {x odd rest : ℕ} → Counted x odd rest → rest ≡ 0 → odd ≡ parity x
done {odd = odd} i e = sym (i.whole ∙ ap (λ (r : ℕ). (odd + parity r) % 2) e ∙ rw parity_zero (omega (arith, i.low)))

pub loop-rest-init : goal.loop-rest-init
loop-rest-init c = record { low = omega arith; whole = omega (arith, parity_lt c.args.x) }

pub loop-rest-preserved : goal.loop-rest-preserved
loop-rest-preserved c = more c.loop-rest.invariant

pub returns : goal.returns
returns c = done c.loop-rest.invariant c.loop-rest-test.false
