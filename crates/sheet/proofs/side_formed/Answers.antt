-- Each test says whether one field of `FormedSide` holds: the part that it looks at is the field's.
use Rattle.std.proofs.Common.{ℕ, ◌≡◌, ◌+◌, ◌-◌, ◌*◌, ◌^◌, ◌≤◌, ◌∙◌, refl, sym, Bool, false, List, length, take, drop, arith}
use Rattle.std.proofs.lemmas.Bool.{lt-leb}
use lib.Seq.{take-take}
use Rattle.kinds.specs.Answers.{Says}
use Rattle.kinds.specs.Edition.{edition1, Sized}
use Rattle.kinds.specs.Frame.{tick_bits}
use Rattle.kinds.proofs.TruthLaws.{false≢true, denied, says_no}
use Rattle.bits.specs.Image.{AllBelow}
use Rattle.sheet.specs.Sheet.{address_places, wiring_places, count_place, stage_places, stages_in, side_of}
use Rattle.sheet.specs.Layout.{StageInRange, EachStage, AllZero}
use Rattle.sheet.proofs.PlaceLaws.{zero_below, used_part, unused_part, last_part}
use Rattle.sheet.proofs.side_formed.Goals as goal
use Rattle.sheet.proofs.side_formed.Goals.{Joined-within_bits-4, then-count-le-MOST_STAGES, else-count-le-MOST_STAGES, then-within_bits, else-within_bits, then-within_bits-2, else-within_bits-2, then-within_bits-3, else-within_bits-3, then-within_bits-4, else-within_bits-4}

-- what is said of a part is said of the field that is this part
module _ {b : Bool} {x y : List ℕ} (same : x ≡ y) where
  says_below : {m : ℕ} → Says b (AllBelow m x) → Says b (AllBelow m y)
  says_below s = rw (← same) s

  says_zero : Says b (AllBelow 1 x) → Says b (AllZero y)
  says_zero s = let t = says_below s in (λ e. (zero_below y).0 (t.0 e), λ z. t.1 ((zero_below y).1 z))

module _ {n k : ℕ} (l : List ℕ) (sized : Sized edition1 n k) {b : Bool} where
  addresses_used : Says b (AllBelow (2 ^ tick_bits n k) (take n l)) → Says b (AllBelow (2 ^ tick_bits n k) (side_of edition1 n k l).addresses)
  addresses_used = says_below (sym (take-take n 10 l sized.frame.most))

  addresses_zero : Says b (AllBelow 1 (take (10 - n) (drop n l))) → Says b (AllZero (drop n (address_places edition1 l)))
  addresses_zero = says_zero (unused_part l 0 n 10 n 10 (omega arith) (omega arith))

  wiring_used : Says b (AllBelow (2 ^ k) (take (10 + k - 10) (drop 10 l))) → Says b (AllBelow (2 ^ k) (side_of edition1 n k l).wiring)
  wiring_used = says_below (used_part l 10 (10 + k) k 5 (omega arith) (omega (arith, sized.most)))

  wiring_zero : Says b (AllBelow 1 (take (15 - (10 + k)) (drop (10 + k) l))) → Says b (AllZero (drop k (wiring_places edition1 l)))
  wiring_zero = says_zero (unused_part l 10 (10 + k) 15 k 5 (omega arith) (omega arith))

  stages_used : {ports ticks : ℕ} → ports ≡ 2 ^ k → ticks ≡ 2 ^ (n - k)
      → Says b (EachStage (StageInRange ports ticks) (stages_in (count_place edition1 l) (take (length l - 16) (drop 16 l))))
      → Says b (EachStage (StageInRange (2 ^ k) (2 ^ tick_bits n k)) (side_of edition1 n k l).stages)
  stages_used e f s = rw (← e) (rw (← f) (rw (← last_part l 0 16) s))

  stages_zero : Says b (AllBelow 1 (take (length l - (16 + 2 * count_place edition1 l)) (drop (16 + 2 * count_place edition1 l) l)))
      → Says b (AllZero (drop (2 * count_place edition1 l) (stage_places edition1 l)))
  stages_zero = says_zero (last_part l 16 (2 * count_place edition1 l))

-- what is said after one test more
module _ {P Q : Type 0} {b v : Bool} where
  passed : P → Says b Q → v ≡ b → Says v (P × Q)
  passed p s e = (λ t. (p, s.0 (sym e ∙ t)), λ both. e ∙ s.1 both.1)

  failed : Says b P → b ≡ false → v ≡ b → Says v (P × Q)
  failed s f e = (λ t. false≢true (sym f ∙ sym e ∙ t), λ both. absurd (denied s f both.0))

-- what the tests up to the last but one say, each with those before it
module _ (c : Joined-within_bits-4) where
  abbrev n : ℕ
  n = c.args.sizes.n

  abbrev k : ℕ
  k = c.args.sizes.k

  abbrev l : List ℕ
  l = c.args.side.now

  abbrev Addresses : Type 0
  Addresses = (count_place edition1 l ≤ 8) × AllBelow (2 ^ tick_bits n k) (side_of edition1 n k l).addresses

  abbrev Unused : Type 0
  Unused = Addresses × AllZero (drop n (address_places edition1 l))

  abbrev Wiring : Type 0
  Wiring = Unused × AllBelow (2 ^ k) (side_of edition1 n k l).wiring

  abbrev Columns : Type 0
  Columns = Wiring × AllZero (drop k (wiring_places edition1 l))

  abbrev Used : Type 0
  Used = Columns × EachStage (StageInRange (2 ^ k) (2 ^ tick_bits n k)) (side_of edition1 n k l).stages

  addresses : Says c.if-count-le-MOST_STAGES.value Addresses
  addresses = elim c.if-count-le-MOST_STAGES.branch [
    | then-count-le-MOST_STAGES w ↦ passed (omega arith) (addresses_used l c.args.sizes.sized (rw w.tick_bits.ensures at w.within_bits.ensures)) w.value-is
    | else-count-le-MOST_STAGES w ↦ failed (says_no (λ few. omega arith)) refl (w.value-is ∙ lt-leb _ _ w.if-count-le-MOST_STAGES.false)
  ]

  unused : Says c.if-within_bits.value Unused
  unused = elim c.if-within_bits.branch [
    | then-within_bits w ↦ passed (addresses.0 w.if-within_bits.true) (addresses_zero l c.args.sizes.sized w.within_bits-then-within_bits.ensures) w.value-is
    | else-within_bits w ↦ failed addresses w.if-within_bits.false w.value-is
  ]

  wiring : Says c.if-within_bits-2.value Wiring
  wiring = elim c.if-within_bits-2.branch [
    | then-within_bits-2 w ↦ passed (unused.0 w.if-within_bits-2.true) (wiring_used l c.args.sizes.sized w.within_bits-then-within_bits-2.ensures) w.value-is
    | else-within_bits-2 w ↦ failed unused w.if-within_bits-2.false w.value-is
  ]

  columns : Says c.if-within_bits-3.value Columns
  columns = elim c.if-within_bits-3.branch [
    | then-within_bits-3 w ↦ passed (wiring.0 w.if-within_bits-3.true) (wiring_zero l c.args.sizes.sized w.within_bits-then-within_bits-3.ensures) w.value-is
    | else-within_bits-3 w ↦ failed wiring w.if-within_bits-3.false w.value-is
  ]

  used : Says c.if-within_bits-4.value Used
  used = elim c.if-within_bits-4.branch [
    | then-within_bits-4 w ↦ passed (columns.0 w.if-within_bits-4.true) (stages_used l c.args.sizes.sized w.ports.ensures w.ticks.ensures w.stages_formed.ensures) w.value-is
    | else-within_bits-4 w ↦ failed columns w.if-within_bits-4.false w.value-is
  ]

pub returns-then-stages_formed : goal.returns-then-stages_formed
returns-then-stages_formed c =
    let rest = stages_zero c.args.side.now c.args.sizes.sized c.within_bits-then-stages_formed.ensures in
    let (((((count, addresses), addresses_unused), wiring), wiring_unused), stages) = (used (goal.at.returns-then-stages_formed c).Joined-within_bits-4).0 c.if-stages_formed.true in (
      λ e. record {
        used = record { addresses = addresses; wiring = wiring; stages = stages };
        count = count;
        addresses_unused = addresses_unused;
        wiring_unused = wiring_unused;
        stages_unused = rest.0 e;
      },
      λ f. rest.1 f.stages_unused,
    )

pub returns-else-stages_formed : goal.returns-else-stages_formed
returns-else-stages_formed c =
    let none = denied (used (goal.at.returns-else-stages_formed c).Joined-within_bits-4) c.if-stages_formed.false in
    (λ e. false≢true (sym c.if-stages_formed.false ∙ e), λ f. absurd (none (((((f.count, f.used.addresses), f.addresses_unused), f.used.wiring), f.wiring_unused), f.used.stages)))
