use Rattle.std.proofs.Common.{ℕ, ◌+◌, ◌^◌, ◌<◌, ◌≡◌, List, Option, length, set, arith, below_more, get_or-set_same, get_or-set_other}
use Rattle.std.specs.Option.{unwrap_or}
use lib.Pow.{pow-lt}
use Rattle.span.specs.Tools.{Asks}
use Rattle.span.specs.declared.Scan.{Scan}
use Rattle.order.proofs.OrderLaws.{order_asked, undoes_columns}
use Rattle.order.proofs.write_inverse.Invariants.{Column, Writing}
use Rattle.order.proofs.write_inverse.Goals as goal

module _ {scan : Scan} {out₀ out : List ℕ} {b : ℕ} (i : Writing scan out₀ out b) where
  more : {unit r : ℕ} {o : Option ℕ} → length out ≡ length out₀ → b < length out₀ → unit ≡ 2 ^ b → Asks scan unit o → r ≡ unwrap_or o 0 → Writing scan out₀ (set out b r) (b + 1)
  more {unit} {r} same l e a is = record {
    few = i.few;
    columns = λ C h o. below_more (Column out₀ (set out b r) C) b
        (λ k m. rw (get_or-set_other out b k r 0 (λ q. omega arith)) (i.columns C h o k m))
        (let (word, found, leaves) = order_asked o h (pow-lt l) (rw e at a) in
        rw (get_or-set_same out b r 0 (omega arith), is, found) leaves);
  }

pub loop-b-preserved : goal.loop-b-preserved
loop-b-preserved c =
    let i = c.loop-b.invariant in
    more i c.loop-b.auto.out c.loop-b-test.true (c.two_to-unit.ensures.fits (omega (arith, i.few))) c.mask_of.ensures c.unwrap_or.ensures

pub returns : goal.returns
returns c C h o = undoes_columns o c.loop-b.auto.out (λ l m. c.loop-b.invariant.columns C h o l (omega arith))
