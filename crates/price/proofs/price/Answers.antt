-- Past the check both sides keep the layout, so that each sum is small, and no control is 0.
use Rattle.std.proofs.Common.{Ok, refl, true, ℕ, ◌+◌, ◌-◌, ◌*◌, ◌^◌, ◌≡◌, ◌≤◌, sym, ap, ap₂, ◌∙◌, List, [], ◌∷◌, length, get_or, take, drop, length-drop, length-take-le, get_or-take, get_or-drop, add-mul, pow_mono, arith}
use Rattle.kinds.specs.Edition.{edition1, Sized, sheet_places}
use Rattle.kinds.specs.Answers.{Checks}
use Rattle.kinds.specs.declared.sizes.Sizes.{Sizes}
use Rattle.kinds.specs.Frame.{tick_bits}
use Rattle.kinds.proofs.TruthLaws.{says_yes}
use Rattle.kinds.proofs.AnswerLaws.{done_by}
use Rattle.sheet.specs.Sheet.{count_place, stage_places, stages_in, side_of, write_places, read_places, write_side, read_side}
use Rattle.sheet.specs.Layout.{FormedSide, WellFormed}
use Rattle.sheet.specs.Table.{sheet_table}
use Rattle.sheet.proofs.StageLaws.{formed_stage}
use Rattle.sheet.proofs.PlaceLaws.{unused_part, last_part}
use Rattle.sheet.proofs.TableLaws.{check_sound}
use Rattle.price.specs.Price.{total, xor_gates_of, all_stages}
use Rattle.price.proofs.PriceLaws.{controlled, total_append, total_const, gates_few}
use Rattle.price.proofs.price.Goals as goal

-- where a sheet of 64 places has the counts and the stages of its sides
module _ (s : List ℕ) where
  write_count_law : get_or s 15 0 ≡ count_place edition1 (write_places edition1 s)
  write_count_law = sym (get_or-take 32 s 15 0 (omega arith))

  read_count : get_or s 47 0 ≡ count_place edition1 (read_places edition1 s)
  read_count = sym (get_or-drop 32 s 15 0)

  write_stages : take 16 (drop 16 s) ≡ stage_places edition1 (write_places edition1 s)
  write_stages = unused_part s 0 16 32 16 32 (omega arith) (omega arith)

  read_stages_law : take (length s - 48) (drop 48 s) ≡ stage_places edition1 (read_places edition1 s)
  read_stages_law = last_part s 32 16

  of_each : (n k b : ℕ) → total (λ _. b) (all_stages edition1 n k s) ≡ (get_or s 15 0 + get_or s 47 0) * b
  of_each n k b = total_append (λ _. b) (write_side edition1 n k s).stages (read_side edition1 n k s).stages
      ∙ ap₂ ◌+◌ (total_const b (stage_places edition1 (write_places edition1 s)) (count_place edition1 (write_places edition1 s)))
      (total_const b (stage_places edition1 (read_places edition1 s)) (count_place edition1 (read_places edition1 s)))
      ∙ ap₂ (λ (w r : ℕ). w * b + r * b) (sym write_count_law) (sym read_count)
      ∙ sym (add-mul (get_or s 15 0) (get_or s 47 0) b)

  write_gates : (n k : ℕ) {r : ℕ} → r ≡ total xor_gates_of (stages_in (get_or s 15 0) (take 16 (drop 16 s)))
      → r ≡ total xor_gates_of (write_side edition1 n k s).stages
  write_gates n k e = e ∙ ap₂ (λ (m : ℕ) (x : List ℕ). total xor_gates_of (stages_in m x)) write_count_law write_stages

  read_gates : (n k : ℕ) {r : ℕ} → r ≡ total xor_gates_of (stages_in (get_or s 47 0) (take (length s - 48) (drop 48 s)))
      → r ≡ total xor_gates_of (read_side edition1 n k s).stages
  read_gates n k e = e ∙ ap₂ (λ (m : ℕ) (x : List ℕ). total xor_gates_of (stages_in m x)) read_count read_stages_law

passed : {n k : ℕ} {s : List ℕ} (sizes : Sizes) → Checks (sheet_table edition1 n k s) true (Ok sizes) → Sized edition1 n k × (length s ≡ sheet_places edition1) × WellFormed edition1 n k s
passed sizes checks = check_sound (Ok sizes) true checks refl

gates_fit : {n k : ℕ} {l : List ℕ} → Sized edition1 n k → FormedSide edition1 n k l → total xor_gates_of (side_of edition1 n k l).stages ≤ 15 * 8
gates_fit {n} {k} {l} sized formed =
    let ticks : 2 ^ tick_bits n k ≤ 2 ^ 16 = pow_mono {i = tick_bits n k} {j = 16} (omega (arith, sized.frame.most)) in
    let few = gates_few (stage_places edition1 l) (count_place edition1 l) (λ s h. omega (arith, (formed_stage formed s h).control, ticks)) in
    omega (arith, few, formed.count)

three : {a b c x y z : ℕ} → a ≡ x → b ≡ y → c ≡ z → a ∷ b ∷ c ∷ [] ≡ x ∷ y ∷ z ∷ []
three e f g = cc

pub bounds-sheet-15 : goal.bounds-sheet-15
bounds-sheet-15 c = omega (arith, (passed c.in_ok-check.field-0 c.in_ok-check.ensures.answer).1)

pub bounds-sheet : goal.bounds-sheet
bounds-sheet c = omega (arith, (passed c.in_ok-check.field-0 c.in_ok-check.ensures.answer).1)

pub slice_bounds-xor_gates-end : goal.slice_bounds-xor_gates-end
slice_bounds-xor_gates-end c = omega (arith, (passed c.in_ok-check.field-0 c.in_ok-check.ensures.answer).1)

pub xor_gates-write_gates-requires : goal.xor_gates-write_gates-requires
xor_gates-write_gates-requires c =
    let s = c.args.sheet.now in
    let (_, places, formed) = passed c.in_ok-check.field-0 c.in_ok-check.ensures.answer in
    controlled (write_count_law s) (write_stages s) (length-take-le 32 s (omega (arith, places))) formed.write

pub slice_bounds-xor_gates-count-2 : goal.slice_bounds-xor_gates-count-2
slice_bounds-xor_gates-count-2 c = omega (arith, (passed c.in_ok-check.field-0 c.in_ok-check.ensures.answer).1)

pub slice_bounds-xor_gates-start-2 : goal.slice_bounds-xor_gates-start-2
slice_bounds-xor_gates-start-2 c = omega (arith, (passed c.in_ok-check.field-0 c.in_ok-check.ensures.answer).1)

pub xor_gates-read_gates-requires : goal.xor_gates-read_gates-requires
xor_gates-read_gates-requires c =
    let s = c.args.sheet.now in
    let (_, places, formed) = passed c.in_ok-check.field-0 c.in_ok-check.ensures.answer in
    let half : length s - 32 ≡ 32 = omega (arith, places) in
    controlled (read_count s) (read_stages_law s) (length-drop 32 s ∙ half) formed.read

pub overflow_add-result : goal.overflow_add-result
overflow_add-result c =
    let s = c.args.sheet.now in
    let (sized, _, formed) = passed c.in_ok-check.field-0 c.in_ok-check.ensures.answer in
    let written = write_gates s c.args.n c.args.k c.xor_gates-write_gates.ensures in
    let read = read_gates s c.args.n c.args.k c.xor_gates-read_gates.ensures in
    omega (arith, written, read, gates_fit sized formed.write, gates_fit sized formed.read)

pub returns : goal.returns
returns c =
    let n = c.args.n in
    let k = c.args.k in
    let s = c.args.sheet.now in
    let powered = c.two_to.ensures.fits (omega (arith, (passed c.in_ok-check.field-0 c.in_ok-check.ensures.answer).0.most)) in
    let switched = ap (λ (x : ℕ). (get_or s 15 0 + get_or s 47 0) * x) powered in
    done_by (sym (c.in_ok-check.ensures.answer [] (says_yes tt))) (three
    (switched ∙ sym (of_each s n k (2 ^ (k - 1))))
    (omega (arith, switched, of_each s n k (2 * 2 ^ (k - 1))))
    (ap₂ ◌+◌ (write_gates s n k c.xor_gates-write_gates.ensures) (read_gates s n k c.xor_gates-read_gates.ensures)
    ∙ sym (total_append xor_gates_of (write_side edition1 n k s).stages (read_side edition1 n k s).stages)))
