-- What is listed of a planned sheet and the words that come out of it.
--   planned_tried     they can be listed
--   planned_text      and what is listed of them is the listing of the order
use Prim.Native.Nat.{ℕ, suc, ◌+◌, ◌-◌, ◌*◌, ◌/◌, ◌^◌, ◌≤◌}
use mathlib.Core.Path.{◌≡◌, sym, ap, ap₂, ◌∙◌}
use mathlib.Core.List.{List, [], ◌∷◌, ◌++◌, flatten}
use native.Mathlib.Nat.{mul-div_cancel}
use native.Mathlib.Omega.{arith}
use lib.ListN.{length, take, drop, replicate, length-append}
use lib.Pow.{pow_pos, pow_mono}
use lib.Seq.{take_at, take_all, drop_at, drop-drop, drop-append-le, drop-append-add}
use Rattle.kinds.specs.Edition.{edition1, Sized}
use Rattle.kinds.specs.Frame.{ticks, in_order}
use Rattle.kinds.proofs.FrameLaws.{frame_whole, in_order_length}
use Rattle.text.specs.Decimal.{codes}
use Rattle.order.specs.Order.{Order}
use Rattle.sheet.specs.Sheet.{Side, flat, laid_out}
use Rattle.bits.specs.Padded.{padded_to}
use Rattle.bits.proofs.PaddedLaws.{padded_length}
use Rattle.sheet.proofs.LayLaws.{flat_length, Layable}
use Rattle.construction.specs.Planned.{planned_read, planned_write, planned_sheet}
use Rattle.construction.proofs.ChoiceLaws.{read_layable}
use Rattle.construction.proofs.PlannedLaws.{write_layable}
use Rattle.trial.specs.Trial.{words_as_they_leave}
use Rattle.lines.specs.Line.{line}
use Rattle.listed.specs.Listing.{stage_line, tick_line, listing}
use Rattle.listed.specs.Inside.{counted_stages, Counted, tick_lines, write_count_of, read_count_of, Tried, trial_text}
use Rattle.listed.proofs.TickLaws.{counted_stages_law}

module _ {n k : ℕ} {S : Side} (layable : Layable edition1 n k S) where
  abbrev addresses : List ℕ
  addresses = padded_to 10 S.addresses

  abbrev wiring : List ℕ
  wiring = padded_to 5 S.wiring

  -- from the count on
  abbrev rest : List ℕ
  rest = length S.stages ∷ padded_to 16 (flat S.stages)

  rest_length : length rest ≡ 17
  rest_length = omega (arith, padded_length 16 (flat S.stages) (omega (arith, flat_length S.stages, layable.stages)))

  module _ (n_few : n ≤ 10) (k_few : k ≤ 5) where
    addresses_length : length addresses ≡ 10
    addresses_length = padded_length 10 S.addresses (omega (arith, layable.addresses))

    wiring_length : length wiring ≡ 5
    wiring_length = padded_length 5 S.wiring (omega (arith, layable.wiring))

    laid_length : length (laid_out edition1 S) ≡ 32
    laid_length = omega (arith, length-append addresses (wiring ++ rest), length-append wiring rest, addresses_length, wiring_length, rest_length)

    laid_rest : drop 15 (laid_out edition1 S) ≡ rest
    laid_rest =
        sym (drop-drop 5 10 (laid_out edition1 S))
        ∙ ap (drop 5) (drop_at addresses (wiring ++ rest) 10 addresses_length)
        ∙ drop_at wiring rest 5 wiring_length

  rest_padded : rest ≡ padded_to 17 (length S.stages ∷ flat S.stages)
  rest_padded =
      let ss = S.stages in
      ap (λ (i : ℕ). length ss ∷ (flat ss ++ replicate i 0)) {x = 16 - length (flat ss)} {y = 17 - suc (length (flat ss))} (omega arith)

  rest_counted : counted_stages rest ≡ length S.stages ∷ flat S.stages
  rest_counted = ap counted_stages rest_padded ∙ counted_stages_law S.stages

  rest_places : Counted rest
  rest_places = record { places = rest_length; stages = layable.stages }

module _ {n k : ℕ} {C : List ℕ} (sized : Sized edition1 n k) (order : Order n C) where
  within : k ≤ n
  within = omega (arith, sized.most)

  n_few : n ≤ 10
  n_few = sized.frame.most

  k_few : k ≤ 5
  k_few = omega (arith, sized.most)

  write : Layable edition1 n k (planned_write n k C)
  write = write_layable sized order (omega arith)

  read : Layable edition1 n k (planned_read n k C)
  read = read_layable k within order edition1 (omega (arith, k_few))

  abbrev W : List ℕ
  W = laid_out edition1 (planned_write n k C)

  abbrev R : List ℕ
  R = laid_out edition1 (planned_read n k C)

  write_rest : write_count_of (planned_sheet edition1 n k C) ≡ rest write
  write_rest =
      ap (take 17) (drop-append-le 15 W R (omega (arith, laid_length write n_few k_few)) ∙ ap (λ (l : List ℕ). l ++ R) (laid_rest write n_few k_few))
      ∙ take_at (rest write) R 17 (rest_length write)

  whole : length (planned_sheet edition1 n k C) ≡ 64
  whole = omega (arith, length-append W R, laid_length write n_few k_few, laid_length read n_few k_few)

  read_rest : read_count_of (planned_sheet edition1 n k C) ≡ rest read
  read_rest =
      let size = laid_length write n_few k_few in
      let from : drop 47 (W ++ R) ≡ rest read =
      ap (λ (i : ℕ). drop i (W ++ R)) {x = 47} {y = length W + 15} (omega (arith, size)) ∙ drop-append-add W R 15 ∙ laid_rest read n_few k_few in
      ap (take (length (planned_sheet edition1 n k C) - 47)) from ∙ take_all (length (planned_sheet edition1 n k C) - 47) (rest read) (omega (arith, whole, rest_length read))

  abbrev lamps : List ℕ
  lamps = words_as_they_leave n C

  lamps_length : length lamps ≡ 2 ^ n
  lamps_length = in_order_length (2 ^ n) _

  lamps_ticks : length lamps / 2 ^ k ≡ ticks n k
  lamps_ticks = ap (λ (x : ℕ). x / 2 ^ k) (lamps_length ∙ sym (frame_whole within)) ∙ mul-div_cancel (ticks n k) (pow_pos k)

  pub planned_tried : Tried k (planned_sheet edition1 n k C) lamps
  planned_tried = record {
    places = whole;
    write = rw write_rest (rest_places write);
    read = rw read_rest (rest_places read);
    frame = record {
      ports = k_few;
      words = omega (arith, lamps_length, pow_mono {i = n} {j = 10} n_few);
      whole = ap (λ (x : ℕ). x * 2 ^ k) lamps_ticks ∙ frame_whole within ∙ sym lamps_length;
    };
  }

  pub planned_text : trial_text n k (planned_sheet edition1 n k C) lamps ≡ listing n k C
  planned_text =
      let same = ap₂ (λ (w r : List ℕ). line (codes "write") w ++ (line (codes "read") r ++ tick_lines k lamps))
      (ap counted_stages write_rest ∙ rest_counted write) (ap counted_stages read_rest ∙ rest_counted read) in
      ap (λ (l : List ℕ). line (codes "order") (n ∷ k ∷ []) ++ l) same
      ∙ ap (λ (m : ℕ). line (codes "order") (n ∷ k ∷ []) ++ (stage_line (codes "write") (planned_write n k C).stages
      ++ (stage_line (codes "read") (planned_read n k C).stages ++ flatten (in_order m (tick_line k lamps))))) lamps_ticks
