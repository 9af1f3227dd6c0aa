-- The masks of the rows tell which were kept, and there are as many directions as controls.
use Rattle.std.proofs.Common.{ℕ, ◌<◌, ◌≤◌, ◌≡◌, min, true, false, List, ◌++◌, length, get_or, take, sym, ap, ap₂, ◌∙◌, arith, length-take, take_all, take_at}
use Rattle.kinds.specs.Edition.{edition1, Sized}
use Rattle.span.specs.Scan.{mask, masks, units}
use Rattle.span.specs.Rows.{rows}
use Rattle.span.proofs.ScanLaws.{units_length}
use Rattle.span.proofs.MaskLaws.{masks_at}
use Rattle.span.proofs.RowLaws.{rows_length}
use Rattle.order.specs.Order.{Order}
use Rattle.parts.specs.Parts.{rows_p1, rows_p3}
use Rattle.parts.proofs.RowLaws.{rows_together}
use Rattle.bits.specs.Padded.{array_width, padded}
use Rattle.bits.proofs.PaddedLaws.{padded_at}
use Rattle.rows.specs.Listed.{kept_numbers}
use Rattle.lay.specs.Staged.{pairs}
use Rattle.lay.proofs.PairLaws.{pairs_length}
use Rattle.construction.specs.Planned.{others_of_p1, kept_of_p3, read_stages_of}
use Rattle.construction.proofs.ChoiceLaws.{other_rows, as_many}
use Rattle.plan.proofs.ListedLaws.{others_listed, kept_listed}
use Rattle.plan.proofs.read_stages.Goals as goal

module _ {n k : ℕ} {C : List ℕ} (sized : Sized edition1 n k) (order : Order n C) where
  abbrev scanned : List ℕ
  scanned = rows_p1 k C ++ rows_p3 n k C

  within : k ≤ n
  within = omega arith

  row_list : {l : List ℕ} → l ≡ padded (rows (min n array_width) (take array_width (take k C))) → take n l ≡ scanned
  row_list e =
      let ports = take k C in
      ap (take n) (e
      ∙ ap (λ (m : ℕ). padded (rows m (take array_width ports))) {x = min n array_width} {y = n} (omega arith)
      ∙ ap (λ (l : List ℕ). padded (rows n l)) (take_all array_width ports (omega (arith, length-take k C, within))))
      ∙ take_at (rows n ports) _ n (rows_length n ports)
      ∙ rows_together n k C within order.count

  all : length scanned ≡ n
  all = ap length (sym (rows_together n k C within order.count)) ∙ rows_length n (take k C)

  module _ {found : List ℕ} (is : found ≡ padded (masks (take array_width scanned))) where
    masked : (i : ℕ) → i < n → get_or found i 0 ≡ mask scanned i
    masked i h =
        ap (λ (l : List ℕ). get_or l i 0) (is ∙ ap (λ (l : List ℕ). padded (masks l)) (take_all array_width scanned (omega (arith, all))))
        ∙ padded_at array_width (masks scanned) i
        ∙ masks_at scanned i (rw all h)

    others : units (kept_numbers found 0 (min k array_width) false) ≡ units (others_of_p1 k C)
    others =
        ap (λ (b : ℕ). units (kept_numbers found 0 b false)) {x = min k array_width} {y = k} (omega arith)
        ∙ ap units (others_listed n k C within found masked)

    kept : units (kept_numbers found k (min n array_width) true) ≡ units (kept_of_p3 n k C)
    kept =
        ap (λ (b : ℕ). units (kept_numbers found k b true)) {x = min n array_width} {y = n} (omega arith)
        ∙ ap units (kept_listed n k C within found masked)

  stages : {ds cs : List ℕ} → ds ≡ units (others_of_p1 k C) → cs ≡ units (kept_of_p3 n k C) → take edition1.most_stages (pairs ds cs) ≡ read_stages_of n k C
  unfolding read_stages_of
  stages e f =
      let directions = units (others_of_p1 k C) in
      let controls = units (kept_of_p3 n k C) in
      let few : length directions ≤ 5 = omega (arith, units_length (others_of_p1 k C), other_rows k C) in
      ap₂ (λ (ds cs : List ℕ). take edition1.most_stages (pairs ds cs)) e f
      ∙ take_all edition1.most_stages (pairs directions controls) (omega (arith, pairs_length directions controls (as_many k within order)))

pub returns : goal.returns
returns c =
    let sized = c.args.sizes.sized in
    let order = c.requires in
    let is = c.masks_of-masks.ensures ∙ ap (λ (l : List ℕ). padded (masks (take array_width l))) (row_list sized order c.rows_of-rows.ensures) in
    c.pair_up.ensures
    ∙ stages sized order
    (c.as_slice.ensures.value ∙ c.list_rows-directions.ensures ∙ others sized order is)
    (c.as_slice-2.ensures.value ∙ c.list_rows-controls.ensures ∙ kept sized order is)
