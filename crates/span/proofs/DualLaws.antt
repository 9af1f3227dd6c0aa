-- Independent rows have dual vectors, by adding a row at the front; with them a map by rows can be undone.
--   Duals k R           dual vectors of the rows R, of k bits each: row l AND vector j has an odd number of ones exactly when l is j
--   independent_tail    without its first member a list stays independent
--   independent_head    the first member of an independent list is no sum of the others
--   rows_of_duals       the rows make of a sum of duals its selection
--   duals_of_rows       the duals make of a sum of rows its selection
--   dual_same, dual_other    row l and dual j have an odd number of ones in common exactly when l is j
--   vanish_sum          what vanishes on the rows vanishes on their sums
--   duals               independent rows have dual vectors
--   functional_sum      what vanishes wherever all rows do is a sum of the rows
use Prim.Native.Nat.{ℕ, suc, ◌+◌, ◌*◌, ◌/◌, ◌%◌, ◌^◌, ◌<◌}
use mathlib.Core.Path.{◌≡◌, refl, sym, ap, ◌∙◌}
use mathlib.Core.List.{List, [], ◌∷◌}
use mathlib.Core.Logic.{◌≢◌}
use native.Mathlib.Decide.{ℕ_discrete}
use native.Mathlib.Omega.{arith}
use native.Mathlib.Nat.{pow-suc}
use lib.Bits.{bit_xor, xor_self, xor_lt, xor_add_and, and_mask}
use lib.ListN.{length, get_or}
use lib.Pow.{pow_pos, pow-lt}
use Rattle.bits.specs.Image.{chosen, image, AllBelow, columns}
use Rattle.bits.specs.Parity.{bit, dot}
use Rattle.bits.proofs.ParityLaws.{bit_same, bit_other, dot_lt, dot_comm, dot_zero, dot_xor_right}
use Rattle.bits.proofs.ImageLaws.{image_cons, image_xor, image_unit, image_lt, linear_agree, columns_length, columns_at}
use Rattle.kinds.specs.Decided.{some_below}
use Rattle.span.specs.Sums.{SumOf, Independent}
use Rattle.span.specs.Rows.{dots}
use Rattle.span.proofs.RowLaws.{dots_bit, dots_nil, dots_cons, dots_lt, dots_xor, dot_image, dot_same}

pub record Duals (k : ℕ) (rs : List ℕ) : Type 0 where
  pub vectors : List ℕ
  pub count : length vectors ≡ length rs
  pub below : AllBelow (2 ^ k) vectors
  pub dual : (j : ℕ) → j < length rs → dots rs (get_or vectors j 0) ≡ 2 ^ j

image_low : (r : ℕ) (rs : List ℕ) (b m : ℕ) → b < 2 → image (r ∷ rs) (b + 2 * m) ≡ bit_xor (chosen b r) (image rs m)
image_low r rs b m h =
    let low : (b + 2 * m) % 2 ≡ b = omega arith in
    let half : (b + 2 * m) / 2 ≡ m = omega arith in
    image_cons r rs (b + 2 * m) ∙ rw (low, half)

pub independent_tail : (r : ℕ) (rs : List ℕ) → Independent (r ∷ rs) → Independent rs
independent_tail r rs h = λ m l e.
    omega (arith, h (0 + 2 * m) (omega (arith, pow-suc 2 (length rs))) (image_low r rs 0 m (omega arith) ∙ e))

pub independent_head : (r : ℕ) (rs : List ℕ) → Independent (r ∷ rs) → ¬ SumOf rs r
independent_head r rs h s =
    omega (
      arith,
      h (1 + 2 * s.selected) (omega (arith, s.below, pow-suc 2 (length rs)))
          (image_low r rs 1 s.selected (omega arith) ∙ rw s.sum (xor_self r)),
    )

pub rows_of_duals : (k : ℕ) (rs : List ℕ) (d : Duals k rs) (s : ℕ) → s < 2 ^ length rs → dots rs (image d.vectors s) ≡ s
rows_of_duals k rs d =
    linear_agree (length rs) (λ s. dots rs (image d.vectors s)) (λ s. s)
    (λ x y. simp (image_xor, dots_xor)) (λ x y. refl)
    (λ j l. ap (dots rs) (image_unit d.vectors j) ∙ d.dual j l)

dual_dots_lt : {k : ℕ} {rs : List ℕ} (d : Duals k rs) (x : ℕ) → dots d.vectors x < 2 ^ length rs
dual_dots_lt d x = rw d.count at (dots_lt d.vectors x)

pub duals_of_rows : (k : ℕ) (rs : List ℕ) (d : Duals k rs) (s : ℕ) → s < 2 ^ length rs → dots d.vectors (image rs s) ≡ s
duals_of_rows k rs d s l =
    dot_same (length rs) (dots d.vectors (image rs s)) s (dual_dots_lt d (image rs s)) l
    (λ t h.
    dot_comm (dots d.vectors (image rs s)) t
    ∙ sym (dot_image d.vectors t (image rs s))
    ∙ dot_comm (image d.vectors t) (image rs s)
    ∙ dot_image rs s (image d.vectors t)
    ∙ ap (dot s) (rows_of_duals k rs d t h))

dual_dot : (k : ℕ) (rs : List ℕ) (d : Duals k rs) (l j : ℕ) → l < length rs → j < length rs
    → dot (get_or rs l 0) (get_or d.vectors j 0) ≡ bit l (2 ^ j)
dual_dot k rs d l j h i = sym (dots_bit rs (get_or d.vectors j 0) l h) ∙ ap (bit l) (d.dual j i)

pub dual_same : (k : ℕ) (rs : List ℕ) (d : Duals k rs) (l : ℕ) → l < length rs → dot (get_or rs l 0) (get_or d.vectors l 0) ≡ 1
dual_same k rs d l h = dual_dot k rs d l l h h ∙ bit_same l

pub dual_other : (k : ℕ) (rs : List ℕ) (d : Duals k rs) (l j : ℕ) → l < length rs → j < length rs → l ≢ j
    → dot (get_or rs l 0) (get_or d.vectors j 0) ≡ 0
dual_other k rs d l j h i n = dual_dot k rs d l j h i ∙ bit_other l j n

pub vanish_sum : (rs : List ℕ) {v : ℕ} (x : ℕ) → dots rs x ≡ 0 → SumOf rs v → dot v x ≡ 0
vanish_sum rs x e s = rw (← s.sum, dot_image, e) (dot_zero s.selected)

-- x ⊕ the sum of the duals that x selects vanishes on the rows, so f has the same dot with both
dual_sum : {k : ℕ} {rs : List ℕ} → AllBelow (2 ^ k) rs → Duals k rs → (f : ℕ) → f < 2 ^ k
    → ((x : ℕ) → x < 2 ^ k → dots rs x ≡ 0 → dot f x ≡ 0) → SumOf rs f
dual_sum {k} {rs} below d f h vanishes = record {
  selected = mask;
  below = dual_dots_lt d f;
  sum = dot_same k (image rs mask) f (image_lt k rs below mask) h same;
}
  where
    mask : ℕ
    mask = dots d.vectors f

    same : (x : ℕ) → x < 2 ^ k → dot (image rs mask) x ≡ dot f x
    same x l =
        let y : ℕ = image d.vectors (dots rs x) in
        let none : dots rs (bit_xor x y) ≡ 0 = dots_xor rs x y ∙ rw (rows_of_duals k rs d (dots rs x) (dots_lt rs x)) (xor_self (dots rs x)) in
        let even : dot f (bit_xor x y) ≡ 0 = vanishes (bit_xor x y) (xor_lt k x y l (image_lt k d.vectors d.below (dots rs x))) none in
        dot_image rs mask x
        ∙ dot_comm mask (dots rs x)
        ∙ sym (dot_image d.vectors (dots rs x) f)
        ∙ dot_comm y f
        ∙ omega (arith, dot_xor_right f x y, dot_lt f x, dot_lt f y)

-- a row that is no sum of the rows is 1 somewhere where they vanish
apart : {k : ℕ} (r : ℕ) {rs : List ℕ} → r < 2 ^ k → AllBelow (2 ^ k) rs → Duals k rs → ¬ SumOf rs r
    → (x : ℕ) × (x < 2 ^ k) × (dots (r ∷ rs) x ≡ 1)
apart {k} r {rs} h below d new = elim (some_below (λ x. ℕ_discrete (dots (r ∷ rs) x) 1) (2 ^ k)) [
  | yes found ↦ found
  | no none ↦ absurd (new (dual_sum below d r h (λ x l. vanishes x (λ one. none (x, l, one)))))
]
  where
    vanishes : (x : ℕ) → dots (r ∷ rs) x ≢ 1 → dots rs x ≡ 0 → dot r x ≡ 0
    vanishes x other e = omega (arith, dots_cons r rs x, dot_lt r x)

-- a y of k bits of which the rows make s, any y where s has too many bits; one for each s gives duals, those of 2^0, 2^1, ..
abbrev Solved : ℕ → List ℕ → ℕ → Type 0
Solved k rs s = (y : ℕ) × (y < 2 ^ k) × (s < 2 ^ length rs → dots rs y ≡ s)

solutions_duals : (k : ℕ) (rs : List ℕ) → ((s : ℕ) → Solved k rs s) → Duals k rs
solutions_duals k rs solve =
    let f : ℕ → ℕ = λ s. (solve s).0 in
    record {
      vectors = columns (length rs) f;
      count = columns_length (length rs) f;
      below = λ j h. rw (columns_at (length rs) f j (rw columns_length at h)) (solve (2 ^ j)).1;
      dual = λ j h. rw (columns_at (length rs) f j h) ((solve (2 ^ j)).2 (pow-lt h));
    }

-- the sum of the old duals that s / 2 selects, with x added where the new row r then differs from s
solved : {k : ℕ} (r : ℕ) {rs : List ℕ} → Duals k rs → (x : ℕ) × (x < 2 ^ k) × (dots (r ∷ rs) x ≡ 1) → (s : ℕ) → Solved k (r ∷ rs) s
solved {k} r {rs} d (x, x_lt, only) s = mend (ℕ_discrete (dots (r ∷ rs) y) s)
  where
    y : ℕ
    y = image d.vectors (s / 2)

    y_lt : y < 2 ^ k
    y_lt = image_lt k d.vectors d.below (s / 2)

    mended : dots (r ∷ rs) y ≢ s → s < 2 ^ suc (length rs) → bit_xor (dots (r ∷ rs) y) 1 ≡ s
    mended differs l =
        let D : ℕ = dots (r ∷ rs) y in
        let half : dots rs y ≡ s / 2 = rows_of_duals k rs d (s / 2) (omega (arith, pow-suc 2 (length rs))) in
        omega (arith, dots_cons r rs y, dot_lt r y, xor_add_and D 1, and_mask D 1)

    mend : Dec (dots (r ∷ rs) y ≡ s) → Solved k (r ∷ rs) s
    mend (yes e) = (y, y_lt, λ l. e)
    mend (no differs) = (bit_xor y x, xor_lt k y x y_lt x_lt, λ l. dots_xor (r ∷ rs) y x ∙ rw only (mended differs l))

pub duals : (k : ℕ) (rs : List ℕ) → AllBelow (2 ^ k) rs → Independent rs → Duals k rs
duals k [] below independent = solutions_duals k [] (λ s. (0, pow_pos k, λ l. omega (arith, dots_nil 0)))
duals k (r ∷ rs) below independent =
    let below_tail : AllBelow (2 ^ k) rs = λ j h. below (suc j) (omega arith) in
    let d = duals k rs below_tail (independent_tail r rs independent) in
    solutions_duals k (r ∷ rs) (solved r d (apart r (below 0 (omega arith)) below_tail d (independent_head r rs independent)))

pub functional_sum : (k : ℕ) (rs : List ℕ) → AllBelow (2 ^ k) rs → Independent rs → (f : ℕ) → f < 2 ^ k
    → ((x : ℕ) → x < 2 ^ k → dots rs x ≡ 0 → dot f x ≡ 0) → SumOf rs f
functional_sum k rs below independent = dual_sum below (duals k rs below independent)
