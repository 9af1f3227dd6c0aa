use Rattle.std.proofs.Common.{ℕ, ◌≡◌, ◌+◌, ◌<◌, ◌≤◌, List, length, get_or, Option, Some, sym, ◌∙◌, arith, below_more, eqb-true}
use Rattle.kinds.specs.Frame.{bank_of}
use Rattle.kinds.specs.declared.Port.{Port}
use Rattle.faults.specs.Table.{first_pair_of}
use Rattle.faults.proofs.FaultLaws.{pair_none, pair_some}
use Rattle.faults.proofs.find_pair.Invariants.{Passed, Compared}
use Rattle.faults.proofs.find_pair.Goals as goal

module _ {k : ℕ} {cs : List ℕ} {pair : Option (Port × Port)} {p q : ℕ} (i : Compared k cs pair p q) where
  stop : q < length cs → bank_of k (get_or cs p 0) ≡ bank_of k (get_or cs q 0) → Some (record { 0 = p }, record { 0 = q }) ≡ first_pair_of k cs
  stop h same =
      sym ((pair_some k cs _ _).1 (record {
        inside = h;
        one_bank = (i.later, same);
        first = λ j l h w. let high : ¬ (j < p) = λ low. i.passed.alone j low (l, h, w) in omega arith;
        second = λ j h w. let high : ¬ (j < q) = λ low. i.apart j low w in omega arith;
      }))

  next : length cs ≤ q → Passed k cs pair (p + 1)
  next end = record { nothing = i.passed.nothing; alone = below_more _ p i.passed.alone (λ (j, h, w). i.apart j (omega arith) w) }

done : {k : ℕ} {cs : List ℕ} {pair : Option (Port × Port)} {p : ℕ} → Passed k cs pair p → length cs ≤ p → pair ≡ first_pair_of k cs
done {k} {cs} i end = i.nothing ∙ sym ((pair_none k cs).1 (λ (j, h, later). i.alone j (omega arith) later))

pub ports-preserved : goal.ports-preserved
ports-preserved c = next c.loop-q.invariant c.loop-q-test.false

pub returns-after-ports : goal.returns-after-ports
returns-after-ports c = done c.ports.invariant c.ports-test.false

pub returns-then-eq : goal.returns-then-eq
returns-then-eq c =
    let bank = λ (p : ℕ). c.bank_bits-mask.ensures (get_or c.args.cells.now p 0) (omega (arith, c.type_inv.cells p)) in
    stop c.loop-q.invariant c.loop-q-test.true (sym (bank c.ports.p) ∙ sym (eqb-true _ _ (sym c.if-eq.ensures)) ∙ bank c.loop-q.q)
