-- The addresses and the banks of the order's columns are the columns of M.
use Rattle.std.proofs.Common.{ℕ, ◌≤◌, ◌≡◌, List, map, length, take, drop, ap, ◌∙◌, arith, take_all}
use Rattle.kinds.specs.Edition.{edition1, Sized}
use Rattle.kinds.specs.Frame.{tick_of}
use Rattle.order.specs.Order.{Order}
use Rattle.sheet.specs.Sheet.{Side, laid_out}
use Rattle.sheet.specs.declared.Stage.{Stage}
use Rattle.sheet.specs.Layout.{InRange}
use Rattle.sheet.proofs.LayLaws.{same_side, Layable}
use Rattle.switches.specs.Written.{kept_stages_of}
use Rattle.construction.specs.Planned.{StagesInRange, read_with, write_with}
use Rattle.construction.proofs.WithLaws.{with_read_layable, with_write_layable}
use Rattle.plan.specs.Inside.{bank_through}
use Rattle.plan.proofs.DrawnLaws.{addresses_drawn, wiring_drawn, tick_part_drawn}
use Rattle.plan.proofs.chosen.Chosen.lay_write_side.Goals as goal

module _ {n k : ℕ} {C : List ℕ} (ss : List Stage) (sized : Sized edition1 n k) (order : Order n C) (range : StagesInRange n k ss) (few : length ss ≤ edition1.most_stages) where
  within : k ≤ n
  within = omega arith

  abbrev W : Side
  W = write_with n k ss C

  write : Layable edition1 n k W
  write = with_write_layable sized order (omega arith) ss range few

  read : InRange n k (read_with n k ss)
  read = (with_read_layable edition1 n k ss within range few).used

  addresses : {l : List ℕ} → l ≡ map (tick_of k) C → take edition1.most_n l ≡ W.addresses
  addresses is = ap (take 10) (is ∙ addresses_drawn n k ss C within order read) ∙ take_all 10 W.addresses (omega (arith, write.addresses))

  module _ {banks : List ℕ} (is : banks ≡ map (bank_through k ss) C) where
    wiring : {front : List ℕ} → front ≡ take k banks → take edition1.most_k front ≡ W.wiring
    wiring e = ap (take 5) (e ∙ ap (take k) is ∙ wiring_drawn n k ss C within order read) ∙ take_all 5 W.wiring (omega (arith, write.wiring))

    stages : {back : List ℕ} → back ≡ drop k banks → take edition1.most_stages (kept_stages_of back) ≡ W.stages
    stages e =
        ap (λ (l : List ℕ). take edition1.most_stages (kept_stages_of l)) (e ∙ ap (drop k) is ∙ tick_part_drawn n k ss C within order read)
        ∙ take_all edition1.most_stages W.stages write.stages

pub returns : goal.returns
returns c =
    let o = c.args.self.now in
    let ss = o.read.now.items in
    let front = c.split_at.ensures.front ∙ ap (take o.sizes.k) c.as_slice.ensures.value in
    let back = c.split_at.ensures.back ∙ ap (drop o.sizes.k) c.as_slice.ensures.value in
    c.lay_out.ensures.laid c.requires
    ∙ ap (laid_out edition1) (same_side
    (addresses ss o.sizes.sized o.order o.in_range o.few (c.as_slice-2.ensures.value ∙ c.addresses-addresses.ensures))
    (wiring ss o.sizes.sized o.order o.in_range o.few c.banks-banks.ensures front)
    (c.kept_stages-write.ensures ∙ stages ss o.sizes.sized o.order o.in_range o.few c.banks-banks.ensures back))
