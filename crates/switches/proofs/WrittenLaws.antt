-- Laws of the side that is written for a map.
--   kept_count           there are as many stages kept as the rank says
--   kept_selected        the stages kept of a tick-to-bank part make up that part
--   side_map             the side that is written for a map has that map
--   side_few             it has no more stages than k, or than there are tick bits
--   side_layable         it can be laid out
use Prim.Native.Nat.{ℕ, ◌+◌, ◌-◌, ◌*◌, ◌^◌, ◌<◌, ◌≤◌, min}
use mathlib.Core.Path.{◌≡◌, refl, sym, ap, ap₂, ◌∙◌}
use mathlib.Core.List.{List, map, map-map}
use native.Mathlib.Decide.{dec_lt}
use native.Mathlib.Nat.{pos_of_ne-zero, zero-div}
use native.Mathlib.Omega.{arith}
use lib.ListN.{length, get_or, length-map}
use lib.Pow.{pow_pos, pow-lt, le_ones, split}
use Rattle.kinds.specs.Edition.{Edition}
use Rattle.kinds.specs.Frame.{tick_bits, word_at, address_of, bank_of}
use Rattle.kinds.proofs.FrameLaws.{tick_lt, port_lt, tick_unit}
use Rattle.bits.specs.Image.{image, columns, AllBelow, Linear}
use Rattle.bits.specs.Parity.{bit}
use Rattle.bits.proofs.ImageLaws.{image_xor, image_unit, linear_agree, columns_length, columns_at, columns_below}
use Rattle.bits.proofs.ParityLaws.{dot_unit, bit_same}
use Rattle.span.specs.Maps.{Into}
use Rattle.span.specs.Rows.{dots, row}
use Rattle.span.specs.Scan.{members, kept_at, kept, rank, units, mask, masks}
use Rattle.span.proofs.RowLaws.{dots_lt, dots_bit, row_lt, row_bit}
use Rattle.span.proofs.SumLaws.{sum_member}
use Rattle.span.proofs.ScanLaws.{map_at, members_at, units_at, kept_at_below, kept_independent}
use Rattle.span.proofs.MaskLaws.{mask_unique, masks_length, masks_at}
use Rattle.span.proofs.RankLaws.{rank_le_length, rank_width, rank_positions}
use Rattle.span.proofs.PositionLaws.{sum_by_bits}
use Rattle.sheet.specs.Sheet.{Side}
use Rattle.sheet.specs.Layout.{StageInRange, EachStage, InRange}
use Rattle.sheet.proofs.LayLaws.{Layable}
use Rattle.sheet.proofs.StageLaws.{each_of}
use Rattle.switches.specs.Stages.{bank_after}
use Rattle.switches.specs.Cells.{port_to_bank, tick_to_bank, cell_of}
use Rattle.switches.specs.Written.{kept_stage, kept_stages_of, side_for}
use Rattle.switches.proofs.StageLaws.{stages_sum, stages_made, directions, controls, selected}
use Rattle.switches.proofs.CellLaws.{cell_linear, port_column, tick_column}

module _ (F : List ℕ) where
  abbrev ps : List ℕ
  ps = kept_at F (length F)

  stages_are : kept_stages_of F ≡ map (kept_stage F) ps
  unfolding kept_stages_of
  stages_are = refl

  stage_count_law : length (kept_stages_of F) ≡ length ps
  stage_count_law = ap length stages_are ∙ length-map ps (kept_stage F)

  pub kept_count : length (kept_stages_of F) ≡ rank F
  kept_count = stage_count_law ∙ sym (rank_positions F)

  kept_directions : directions (kept_stages_of F) ≡ kept F
  unfolding kept
  kept_directions = ap directions stages_are ∙ map-map (λ s. s.direction) (kept_stage F) ps

  kept_controls : controls (kept_stages_of F) ≡ map (row (masks F)) ps
  kept_controls = ap controls stages_are ∙ map-map (λ s. s.control) (kept_stage F) ps

  control_count : length (controls (kept_stages_of F)) ≡ length ps
  control_count = length-map (kept_stages_of F) (λ s. s.control) ∙ stage_count_law

  control_at_law : (s : ℕ) → s < length ps → get_or (controls (kept_stages_of F)) s 0 ≡ row (masks F) (get_or ps s 0)
  control_at_law s h = ap (λ (l : List ℕ). get_or l s 0) kept_controls ∙ map_at (row (masks F)) ps s h

  control_bit : (p j : ℕ) → j < length F → bit j (row (masks F) p) ≡ bit p (mask F j)
  control_bit p j h = row_bit (masks F) p j (rw (masks_length F) h) ∙ ap (bit p) (masks_at F j h)

  kept_column : (j : ℕ) → j < length F → image (kept F) (dots (controls (kept_stages_of F)) (2 ^ j)) ≡ get_or F j 0
  kept_column j h =
      let cs = controls (kept_stages_of F) in
      sum_by_bits F j (dots cs (2 ^ j)) h (rw control_count at (dots_lt cs (2 ^ j)))
      (λ s l. dots_bit cs (2 ^ j) s (rw control_count l) ∙ dot_unit j (get_or cs s 0) ∙ ap (bit j) (control_at_law s l) ∙ control_bit (get_or ps s 0) j h)

  pub kept_selected : (c : ℕ) → c < 2 ^ length F → selected (kept_stages_of F) c ≡ image F c
  kept_selected = stages_made (kept_stages_of F) (length F) (image F) (image_xor F) (λ j h. rw kept_directions (kept_column j h) ∙ sym (image_unit F j))

  module _ (s : ℕ) (h : s < length ps) where
    abbrev p : ℕ
    p = get_or ps s 0

    inside : p < length F
    inside = kept_at_below F (length F) s h

    direction_least : 1 ≤ get_or F p 0
    direction_least = pos_of_ne-zero (λ none.
        let no_sum = kept_independent F (length F) (2 ^ s) (rw length-map (pow-lt h)) in
        omega (arith, pow_pos s, no_sum (image_unit (members F ps) s ∙ members_at F ps s h ∙ none)))

    own_mask : mask F p ≡ 2 ^ p
    own_mask = sym (mask_unique F p inside (rw (units_at ps s h) at (sum_member (units ps) s)) (image_unit F p))

    control_least : 1 ≤ row (masks F) p
    control_least = pos_of_ne-zero (λ none.
        let odd : bit p 0 ≡ 1 = ap (bit p) (sym none) ∙ control_bit p p inside ∙ ap (bit p) own_mask ∙ bit_same p in
        omega (arith, zero-div (2 ^ p)))

  kept_range : (k : ℕ) → AllBelow (2 ^ k) F → EachStage (StageInRange (2 ^ k) (2 ^ length F)) (kept_stages_of F)
  kept_range k below =
      rw stages_are (each_of (StageInRange (2 ^ k) (2 ^ length F)) (kept_stage F) ps (λ s h. record {
        direction = record { least = direction_least s h; most = le_ones k (below (get_or ps s 0) (inside s h)) };
        control = record { least = control_least s h; most = le_ones (length F) (rw (masks_length F) at (row_lt (masks F) (get_or ps s 0))) };
      }))

module _ (n k : ℕ) (f : ℕ → ℕ) (within : k ≤ n) (linear : Linear f) (into : Into f (2 ^ n) (2 ^ n)) where
  abbrev S : Side
  S = side_for n k f

  abbrev tick_columns : List ℕ
  tick_columns = columns (tick_bits n k) (tick_to_bank k f)

  tick_count : length tick_columns ≡ tick_bits n k
  tick_count = columns_length (tick_bits n k) (tick_to_bank k f)

  tick_below : AllBelow (2 ^ k) tick_columns
  tick_below = columns_below (tick_bits n k) (2 ^ k) (tick_to_bank k f) (λ j h. port_lt k (f (word_at k (2 ^ j) 0)))

  used : InRange n k S
  used = record {
    addresses = columns_below n (2 ^ tick_bits n k) (λ i. address_of k (f i)) (λ j h. tick_lt within (into (2 ^ j) (pow-lt h)));
    wiring = columns_below k (2 ^ k) (port_to_bank k f) (λ j h. port_lt k (f (word_at k 0 (2 ^ j))));
    stages = rw tick_count at (kept_range tick_columns k tick_below);
  }

  -- a column is made of its address and its bank
  joined : (j : ℕ) {b : ℕ} → j < n → b ≡ bank_of k (f (2 ^ j)) → get_or S.addresses j 0 * 2 ^ k + b ≡ f (2 ^ j)
  joined j h bank = ap₂ (λ (a b : ℕ). a * 2 ^ k + b) (columns_at n (λ i. address_of k (f i)) j h) bank ∙ split (f (2 ^ j)) k

  tick_bank : (j : ℕ) → k ≤ j → j < n → bank_after S.stages (2 ^ (j - k)) 0 ≡ bank_of k (f (2 ^ j))
  tick_bank j above h =
      let bit_of_tick : j - k < tick_bits n k = omega arith in
      stages_sum S.stages (2 ^ (j - k)) 0
      ∙ kept_selected tick_columns (2 ^ (j - k)) (rw tick_count (pow-lt bit_of_tick))
      ∙ image_unit tick_columns (j - k)
      ∙ columns_at (tick_bits n k) (tick_to_bank k f) (j - k) bit_of_tick
      ∙ ap (λ (i : ℕ). bank_of k (f i)) (tick_unit above)

  column : (j : ℕ) → j < n → cell_of k S (2 ^ j) ≡ f (2 ^ j)
  column j h = elim (dec_lt j k) [
    | yes low ↦ port_column k S j low ∙ joined j h (columns_at k (port_to_bank k f) j low ∙ ap (λ (i : ℕ). bank_of k (f i)) (omega arith))
    | no high ↦ tick_column k S j (omega arith) ∙ joined j h (tick_bank j (omega arith) h)
  ]

  pub side_map : (i : ℕ) → i < 2 ^ n → cell_of k (side_for n k f) i ≡ f i
  side_map = linear_agree n (cell_of k S) f (cell_linear used) linear column

  pub side_few : length (side_for n k f).stages ≤ min k (tick_bits n k)
  side_few =
      omega (arith, kept_count tick_columns, rank_width k tick_columns tick_below, rank_le_length tick_columns tick_columns (λ j h. sum_member tick_columns j), tick_count)

  pub side_layable : (e : Edition) → k ≤ e.most_stages → Layable e n k (side_for n k f)
  side_layable e room = record {
    addresses = columns_length n (λ i. address_of k (f i));
    wiring = columns_length k (port_to_bank k f);
    stages = omega (arith, side_few);
    used = used;
  }
