-- A map by its rows says the same as the map by its columns, and a number is known by its dots.
--   dots_nil       no rows make 0 of each number
--   dots_cons      the first row gives the lowest bit, the other rows the rest
--   dots_lt        what l rows make has l bits
--   dots_xor       rows make a linear map
--   dots_bit       bit l of what the rows make of x is the dot of row l and x
--   dots_none      the rows make 0 of what has dot 0 with each
--   vanish_append  where two lists of rows make 0 of x, each does
--   dot_image      the dot of a sum of rows and x is the dot of the selection and what the rows make of x
--   dot_same       two numbers of k bits that have the same dot with each number of k bits are equal
--   row_nil, row_cons    the definition, as equations
--   row_dots       row i is what the columns, taken as rows, make of 2^i
--   row_lt         a row has as many bits as there are columns
--   row_bit        bit j of row i is bit i of column j
--   rows_length    there are m rows
--   rows_row       row i of them is row i
--   rows_at        which is what the columns make of 2^i
--   rows_columns   so the rows of columns are the columns of what these make, taken as rows
--   rows_below     a row has as many bits as there are columns
--   rows_bit       bit j of row i is bit i of column j
--   rows_image     the rows of columns make of x its image under the columns
--   row_dot        a row AND x is odd exactly when that bit of the image is 1
--   rows_rows      the rows of the rows are the columns
use Prim.Native.Nat.{ℕ, zero, suc, ◌+◌, ◌*◌, ◌/◌, ◌%◌, ◌^◌, ◌<◌, min}
use mathlib.Core.Path.{◌≡◌, refl, sym, ap, ap₂, ◌∙◌}
use mathlib.Core.List.{List, [], ◌∷◌, ◌++◌}
use mathlib.Core.Logic.{⊎_elim}
use native.Mathlib.Omega.{arith}
use native.Mathlib.Nat.{pow-suc}
use lib.Bits.{bit_xor}
use lib.ListN.{length, get_or}
use lib.Pow.{pow-lt}
use lib.Seq.{ext_get_or}
use Rattle.kinds.proofs.FrameLaws.{in_order_length, in_order_at, in_order_same}
use Rattle.bits.specs.Image.{chosen, image, AllBelow, Linear, columns}
use Rattle.bits.specs.Parity.{bit, dot}
use Rattle.bits.proofs.XorLaws.{by_halves, even_or_odd, xor_half, xor_low}
use Rattle.bits.proofs.ParityLaws.{dot_lt, dot_comm, dot_zero, dot_xor_right, dot_xor_left, dot_step, bit_suc, dot_unit, by_bits}
use Rattle.bits.proofs.ImageLaws.{image_nil, image_cons, image_unit, image_lt}
use Rattle.span.specs.Rows.{dots, row, rows}

pub dots_nil : (x : ℕ) → dots [] x ≡ 0
unfolding dots
dots_nil x = refl

pub dots_cons : (r : ℕ) (rs : List ℕ) (x : ℕ) → dots (r ∷ rs) x ≡ dot r x + 2 * dots rs x
unfolding dots
dots_cons r rs x = refl

dots_half : (r : ℕ) (rs : List ℕ) (x : ℕ) → dots (r ∷ rs) x / 2 ≡ dots rs x
dots_half r rs x = omega (arith, dots_cons r rs x, dot_lt r x)

dots_low : (r : ℕ) (rs : List ℕ) (x : ℕ) → dots (r ∷ rs) x % 2 ≡ dot r x
dots_low r rs x = omega (arith, dots_cons r rs x, dot_lt r x)

pub dots_lt : (rs : List ℕ) (x : ℕ) → dots rs x < 2 ^ length rs
dots_lt [] x = omega (arith, dots_nil x)
dots_lt (r ∷ rs) x = omega (arith, dots_cons r rs x, dot_lt r x, dots_lt rs x, pow-suc 2 (length rs))

pub dots_xor : (rs : List ℕ) → Linear (dots rs)
dots_xor [] x y = simp dots_nil
dots_xor (r ∷ rs) x y =
    by_halves (simp (xor_half, dots_half) (dots_xor rs x y))
    (dots_low r rs (bit_xor x y)
    ∙ dot_xor_right r x y
    ∙ omega (arith, xor_low (dots (r ∷ rs) x) (dots (r ∷ rs) y), dots_low r rs x, dots_low r rs y))

pub dots_bit : (rs : List ℕ) (x l : ℕ) → l < length rs → bit l (dots rs x) ≡ dot (get_or rs l 0) x
dots_bit [] x l h = absurd (omega arith)
dots_bit (r ∷ rs) x zero h = omega (arith, dots_low r rs x)
dots_bit (r ∷ rs) x (suc l) h = bit_suc l (dots (r ∷ rs) x) ∙ ap (bit l) (dots_half r rs x) ∙ dots_bit rs x l (omega arith)

pub dots_none : (rs : List ℕ) (x : ℕ) → ((l : ℕ) → l < length rs → dot (get_or rs l 0) x ≡ 0) → dots rs x ≡ 0
dots_none [] x h = dots_nil x
dots_none (r ∷ rs) x h = omega (arith, dots_cons r rs x, h 0 (omega arith), dots_none rs x (λ l k. h (suc l) (omega arith)))

pub vanish_append : (rs ss : List ℕ) (x : ℕ) → dots (rs ++ ss) x ≡ 0 → (dots rs x ≡ 0) × (dots ss x ≡ 0)
vanish_append [] ss x e = (dots_nil x, e)
vanish_append (r ∷ rs) ss x e =
    let rest = vanish_append rs ss x (omega (arith, dots_cons r (rs ++ ss) x)) in
    (omega (arith, dots_cons r (rs ++ ss) x, dots_cons r rs x, rest.0), rest.1)

chosen_dot : (s r x : ℕ) → dot (chosen (s % 2) r) x ≡ min (s % 2) (dot r x)
chosen_dot s r x =
    ⊎_elim (λ e. rw e (dot_comm 0 x ∙ dot_zero x ∙ omega arith)) (λ e. rw e (omega (arith, dot_lt r x))) (even_or_odd s)

pub dot_image : (rs : List ℕ) (s x : ℕ) → dot (image rs s) x ≡ dot s (dots rs x)
dot_image [] s x = rw (image_nil, dots_nil, dot_zero s) (dot_comm 0 x ∙ dot_zero x)
dot_image (r ∷ rs) s x =
    ap (λ v. dot v x) (image_cons r rs s)
    ∙ dot_xor_left (chosen (s % 2) r) (image rs (s / 2)) x
    ∙ ap₂ (λ a b. (a + b) % 2) (chosen_dot s r x) (dot_image rs (s / 2) x)
    ∙ sym (dot_step s (dots (r ∷ rs) x) ∙ rw (dots_half, dots_low))

pub dot_same : (k a b : ℕ) → a < 2 ^ k → b < 2 ^ k → ((x : ℕ) → x < 2 ^ k → dot a x ≡ dot b x) → a ≡ b
dot_same k a b h l same = by_bits k a b h l (λ j m. sym (dot_unit j a) ∙ same (2 ^ j) (pow-lt m) ∙ dot_unit j b)

pub row_nil : (i : ℕ) → row [] i ≡ 0
unfolding row
row_nil i = refl

pub row_cons : (c : ℕ) (cs : List ℕ) (i : ℕ) → row (c ∷ cs) i ≡ bit i c + 2 * row cs i
unfolding row
row_cons c cs i = refl

pub row_dots : (cs : List ℕ) (i : ℕ) → row cs i ≡ dots cs (2 ^ i)
row_dots [] i = row_nil i ∙ sym (dots_nil (2 ^ i))
row_dots (c ∷ cs) i =
    row_cons c cs i ∙ ap₂ (λ (a b : ℕ). a + 2 * b) (sym (dot_unit i c)) (row_dots cs i) ∙ sym (dots_cons c cs (2 ^ i))

pub row_lt : (cs : List ℕ) (i : ℕ) → row cs i < 2 ^ length cs
row_lt cs i = rw (row_dots cs i) (dots_lt cs (2 ^ i))

pub row_bit : (cs : List ℕ) (i j : ℕ) → j < length cs → bit j (row cs i) ≡ bit i (get_or cs j 0)
row_bit cs i j h = ap (bit j) (row_dots cs i) ∙ dots_bit cs (2 ^ i) j h ∙ dot_unit i (get_or cs j 0)

pub rows_length : (m : ℕ) (cs : List ℕ) → length (rows m cs) ≡ m
unfolding rows
rows_length m cs = in_order_length m (row cs)

pub rows_row : (m : ℕ) (cs : List ℕ) (i : ℕ) → i < m → get_or (rows m cs) i 0 ≡ row cs i
unfolding rows
rows_row m cs = in_order_at m (row cs) 0

pub rows_at : (m : ℕ) (cs : List ℕ) (i : ℕ) → i < m → get_or (rows m cs) i 0 ≡ dots cs (2 ^ i)
rows_at m cs i h = rows_row m cs i h ∙ row_dots cs i

pub rows_columns : (m : ℕ) (cs : List ℕ) → rows m cs ≡ columns m (dots cs)
unfolding rows columns
rows_columns m cs = in_order_same m (row cs) (λ i. dots cs (2 ^ i)) (λ i h. row_dots cs i)

pub rows_below : (m : ℕ) (cs : List ℕ) → AllBelow (2 ^ length cs) (rows m cs)
rows_below m cs = λ i h. rw (rows_row m cs i (omega (arith, rows_length m cs))) (row_lt cs i)

pub rows_bit : (m : ℕ) (cs : List ℕ) (i j : ℕ) → i < m → j < length cs → bit j (get_or (rows m cs) i 0) ≡ bit i (get_or cs j 0)
rows_bit m cs i j h l = ap (bit j) (rows_row m cs i h) ∙ row_bit cs i j l

pub rows_image : (m : ℕ) (cs : List ℕ) → AllBelow (2 ^ m) cs → (x : ℕ) → dots (rows m cs) x ≡ image cs x
rows_image m cs h x =
    by_bits m (dots (rows m cs) x) (image cs x) (rw rows_length at (dots_lt (rows m cs) x)) (image_lt m cs h x)
    (λ i l.
    dots_bit (rows m cs) x i (rw rows_length l)
    ∙ rw (rows_at m cs i l, dot_comm, ← dot_image cs x (2 ^ i)) (dot_unit i (image cs x)))

pub row_dot : (m : ℕ) (cs : List ℕ) → AllBelow (2 ^ m) cs → (x i : ℕ) → i < m → dot (get_or (rows m cs) i 0) x ≡ bit i (image cs x)
row_dot m cs below x i h = sym (dots_bit (rows m cs) x i (rw rows_length h)) ∙ ap (bit i) (rows_image m cs below x)

pub rows_rows : (m : ℕ) (cs : List ℕ) → AllBelow (2 ^ m) cs → rows (length cs) (rows m cs) ≡ cs
rows_rows m cs h =
    ext_get_or 0 (rows (length cs) (rows m cs)) cs same
    (λ j l. rows_at (length cs) (rows m cs) j (rw same at l) ∙ rows_image m cs h (2 ^ j) ∙ image_unit cs j)
  where
    same : length (rows (length cs) (rows m cs)) ≡ length cs
    same = rows_length (length cs) (rows m cs)
