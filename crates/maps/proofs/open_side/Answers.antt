-- Beyond what a formed side uses there are zeros, in its places and after them.
use Rattle.std.proofs.Common.{ℕ, ◌≤◌, ◌≡◌, ap, ◌∙◌, List, length, take, drop, length-drop, length-take-le, take_all, arith}
use Rattle.kinds.specs.Edition.{edition1, side_places, Sized}
use Rattle.bits.specs.Padded.{array_width, padded_to, padded}
use Rattle.sheet.specs.Sheet.{address_places, wiring_places, count_place, stage_places, stages_in, side_of}
use Rattle.sheet.specs.declared.Stage.{Stage}
use Rattle.sheet.specs.Layout.{FormedSide}
use Rattle.sheet.specs.Inside.{most_stages_in}
use Rattle.sheet.proofs.StageLaws.{stages_length}
use Rattle.sheet.proofs.PlaceLaws.{last_part}
use Rattle.sheet.proofs.LayLaws.{padded_used}
use Rattle.maps.specs.Opened.{Shows}
use Rattle.maps.specs.declared.OpenSide.{OpenSide}
use Rattle.maps.proofs.open_side.Goals as goal

module _ {n k : ℕ} (l : List ℕ) (sized : Sized edition1 n k) (whole : length l ≡ side_places edition1) (formed : FormedSide edition1 n k l) where
  abbrev count : ℕ
  count = count_place edition1 l

  all : (ns : List ℕ) → length ns ≤ array_width → padded_to array_width (take array_width ns) ≡ padded ns
  all ns few = ap padded (take_all array_width ns few)

  shows : {ds ws : List ℕ} {ss : List Stage} → ds ≡ padded_to array_width (take array_width (address_places edition1 l))
      → ws ≡ padded_to array_width (take array_width (wiring_places edition1 l)) → ss ≡ stages_in (most_stages_in count (stage_places edition1 l)) (stage_places edition1 l)
      → Shows n k (record { k = k; addresses = ds; wiring = ws; stages = record { items = ss } }) (side_of edition1 n k l)
  shows a w s =
      let addresses = length-take-le 10 l (omega arith) in
      let wiring = length-take-le 5 (drop 10 l) (omega (arith, length-drop 10 l)) in
      record {
        is = is
            (a ∙ all (address_places edition1 l) (omega (arith, addresses)) ∙ padded_used array_width n (address_places edition1 l) (omega (arith, addresses)) formed.addresses_unused)
            (w ∙ all (wiring_places edition1 l) (omega (arith, wiring)) ∙ padded_used array_width k (wiring_places edition1 l) (omega (arith, wiring)) formed.wiring_unused)
            (s ∙ ap (λ (m : ℕ). stages_in m (stage_places edition1 l)) {x = most_stages_in count (stage_places edition1 l)} {y = count} (omega (arith, formed.count, length-drop 16 l)));
        ports = omega (arith, sized.most);
        words = omega (arith, sized.frame.most);
        addresses = length-take-le n (address_places edition1 l) (omega (arith, addresses, sized.frame.most));
        wiring = length-take-le k (wiring_places edition1 l) (omega (arith, wiring, sized.most));
        stages = omega (arith, stages_length count (stage_places edition1 l), formed.count);
        used = formed.used;
      }
    where
      is : {a b x y : List ℕ} {c z : List Stage} → a ≡ x → b ≡ y → c ≡ z
          → ◌≡◌ {A = OpenSide} (record { k = k; addresses = a; wiring = b; stages = record { items = c } }) (record { k = k; addresses = x; wiring = y; stages = record { items = z } })
      is e f g = cc

pub returns : goal.returns
returns c =
    let l = c.args.side.now in
    shows l c.args.sizes.sized c.requires.places c.requires.formed c.padded.ensures c.padded-2.ensures
    (c.stages_of.ensures ∙ ap (λ (p : List ℕ). stages_in (most_stages_in (count_place edition1 l) p) p) (last_part l 0 16))
