-- Laws of stages.
--   directions ss, controls ss    the directions of the stages ss, and their controls
--   selected ss c       the sum of the directions whose controls AND c have an odd number of ones
--   after_append        stages after stages
--   selected_linear     what stages select is linear in the tick
--   stages_sum          what stages do to a bank: they xor in the selected directions
--   stages_made         stages that make up each column of a linear map of tick bits make up the map
--   stages_rank         what stages make of any map has no greater rank than there are stages
--   directions_below, controls_below    directions in range are below 2^k, controls below 2^t
--   selected_beyond     a tick bit beyond the controls' selects nothing
--   after_lt            stages with directions of w bits leave a bank of w bits one of w bits
use Prim.Native.Nat.{ℕ, zero, suc, ◌+◌, ◌*◌, ◌/◌, ◌%◌, ◌^◌, ◌<◌, ◌≤◌}
use mathlib.Core.Path.{◌≡◌, refl, sym, ap, ap₂, ◌∙◌}
use mathlib.Core.List.{List, [], ◌∷◌, ◌++◌, map}
use native.Mathlib.Nat.{div-eq_of_lt}
use native.Mathlib.Omega.{arith}
use lib.Bits.{bit_xor, xor_zero_r, xor_lt}
use lib.ListN.{length, length-map}
use lib.Pow.{pow_mono, lt_of_le_ones}
use Rattle.bits.specs.Image.{chosen, image, columns, AllBelow, Linear}
use Rattle.bits.specs.Parity.{dot}
use Rattle.bits.proofs.XorLaws.{xor_assoc}
use Rattle.bits.proofs.ParityLaws.{dot_lt, dot_unit}
use Rattle.bits.proofs.ImageLaws.{image_nil, image_cons, image_xor, image_lt, linear_agree}
use Rattle.span.specs.Rows.{dots}
use Rattle.span.specs.Scan.{rank}
use Rattle.span.proofs.RowLaws.{dots_cons, dots_xor}
use Rattle.span.proofs.SumLaws.{sum_image}
use Rattle.span.proofs.RankLaws.{rank_le_length, columns_sum}
use Rattle.sheet.specs.declared.Stage.{Stage}
use Rattle.sheet.specs.Layout.{StageInRange, EachStage}
use Rattle.switches.specs.Stages.{bank_after}

abbrev pub directions : List Stage → List ℕ
directions ss = map (λ s. s.direction) ss

abbrev pub controls : List Stage → List ℕ
controls ss = map (λ s. s.control) ss

abbrev pub selected : List Stage → ℕ → ℕ
selected ss c = image (directions ss) (dots (controls ss) c)

pub after_append : (ss ts : List Stage) (c b : ℕ) → bank_after (ss ++ ts) c b ≡ bank_after ts c (bank_after ss c b)
unfolding bank_after
after_append [] ts c b = refl
after_append (s ∷ ss) ts c b = after_append ss ts c (bit_xor b (chosen (dot s.control c) s.direction))

pub selected_linear : (ss : List Stage) → Linear (selected ss)
selected_linear ss c d = ap (image (directions ss)) (dots_xor (controls ss) c d) ∙ image_xor (directions ss) (dots (controls ss) c) (dots (controls ss) d)

selected_cons : (s : Stage) (ss : List Stage) (c : ℕ) → selected (s ∷ ss) c ≡ bit_xor (chosen (dot s.control c) s.direction) (selected ss c)
selected_cons s ss c =
    let odd = dot_lt s.control c in
    let rest = dots (controls ss) c in
    let low_bit : (dot s.control c + 2 * rest) % 2 ≡ dot s.control c = omega (arith, odd) in
    let others : (dot s.control c + 2 * rest) / 2 ≡ rest = omega (arith, odd) in
    ap (image (directions (s ∷ ss))) (dots_cons s.control (controls ss) c)
    ∙ image_cons s.direction (directions ss) (dot s.control c + 2 * rest)
    ∙ ap₂ (λ (x y : ℕ). bit_xor (chosen x s.direction) (image (directions ss) y)) low_bit others

pub stages_sum : (ss : List Stage) (c b : ℕ) → bank_after ss c b ≡ bit_xor b (selected ss c)
unfolding bank_after
stages_sum [] c b = sym (ap (bit_xor b) (image_nil (dots [] c)) ∙ xor_zero_r b)
stages_sum (s ∷ ss) c b =
    let one = chosen (dot s.control c) s.direction in
    stages_sum ss c (bit_xor b one) ∙ xor_assoc b one (selected ss c) ∙ ap (bit_xor b) (sym (selected_cons s ss c))

pub stages_made : (ss : List Stage) (t : ℕ) (f : ℕ → ℕ) → Linear f → ((j : ℕ) → j < t → selected ss (2 ^ j) ≡ f (2 ^ j))
    → (c : ℕ) → c < 2 ^ t → selected ss c ≡ f c
stages_made ss t f = linear_agree t (selected ss) f (selected_linear ss)

pub stages_rank : (k : ℕ) (ss : List Stage) (f : ℕ → ℕ) → rank (columns k (λ p. selected ss (f p))) ≤ length ss
stages_rank k ss f =
    rw (← length-map ss (λ s. s.direction))
    (rank_le_length (columns k (λ p. selected ss (f p))) (directions ss)
    (columns_sum k (λ p. selected ss (f p)) (λ j h. sum_image (directions ss) (dots (controls ss) (f (2 ^ j))))))

each_below : {Q : Stage → Type 0} {b : ℕ} (f : Stage → ℕ) → ((s : Stage) → Q s → f s < b) → (ss : List Stage) → EachStage Q ss → AllBelow b (map f ss)
each_below f low [] each j h = absurd (omega arith)
each_below f low (s ∷ ss) each zero h = low s each.0
each_below f low (s ∷ ss) each (suc j) h = each_below f low ss each.1 j (omega arith)

pub directions_below : (k t : ℕ) (ss : List Stage) → EachStage (StageInRange (2 ^ k) t) ss → AllBelow (2 ^ k) (directions ss)
directions_below k t ss = each_below (λ s. s.direction) (λ s r. lt_of_le_ones k r.direction.most) ss

pub controls_below : (b t : ℕ) (ss : List Stage) → EachStage (StageInRange b (2 ^ t)) ss → AllBelow (2 ^ t) (controls ss)
controls_below b t ss = each_below (λ s. s.control) (λ s r. lt_of_le_ones t r.control.most) ss

pub selected_beyond : (b t m : ℕ) (ss : List Stage) → EachStage (StageInRange b (2 ^ t)) ss → t ≤ m → selected ss (2 ^ m) ≡ 0
selected_beyond b t m [] each h = image_nil (dots [] (2 ^ m))
selected_beyond b t m (s ∷ ss) each h =
    let small : s.control < 2 ^ m = omega (arith, lt_of_le_ones t each.0.control.most, pow_mono {i = t} {j = m} h) in
    let even : dot s.control (2 ^ m) ≡ 0 = dot_unit m s.control ∙ ap (λ (x : ℕ). x % 2) (div-eq_of_lt small) in
    selected_cons s ss (2 ^ m) ∙ rw even (selected_beyond b t m ss each.1 h)

pub after_lt : (w : ℕ) (ss : List Stage) → AllBelow (2 ^ w) (directions ss) → (c b : ℕ) → b < 2 ^ w → bank_after ss c b < 2 ^ w
after_lt w ss below c b h = rw (stages_sum ss c b) (xor_lt w b (selected ss c) h (image_lt w (directions ss) below (dots (controls ss) c)))
