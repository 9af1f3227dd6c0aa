-- The image under columns is a linear map, and every linear map of n bits is the image under its columns.
--   below_one, below_append    lists of numbers below a bound
--   image_nil, image_cons      the definition, as equations
--   image_zero          the image of 0
--   chosen_zero, chosen_xor    choosing by a bit makes nothing of 0, and passes through exclusive or
--   image_xor           the image is linear
--   zeros_at            zeros are 0 at each place, and beyond the last
--   image_unit          the image of 2^j is column j
--   chosen_lt           choosing by a bit keeps a bound
--   image_lt            columns of m bits give images of m bits
--   image_append        the columns of a second list take the bits above the first list's
--   image_prefix        a number with no such bits needs no second list
--   image_snoc          one column more
--   image_mod           bits above the columns choose nothing
--   linear_zero         a linear map sends 0 to 0
--   linear_chosen       and passes through choosing by a bit
--   linear_map          a linear map takes sums of columns to sums of their values
--   image_image         the columns of B after A are the images of A's columns
--   columns_length, columns_at    there are n columns, and column j is the value at 2^j
--   columns_below       values of m bits give columns of m bits
--   columns_image       the columns of an image are the columns
--   linear_image        a linear map on the numbers of n bits is the image under its columns
--   image_identity, image_shifted    so the columns of the identity give each number itself, and those of a shift the shifted number
--   columns_same        maps that agree at each 2^j have the same columns
--   columns_map         the columns of g after f are the values of g at f's columns
--   linear_agree        two linear maps that agree at 2^0 .. 2^(n-1) agree on all numbers of n bits
--   same_image          columns that show the same numbers have the same images
use Prim.Native.Nat.{ℕ, zero, suc, ◌+◌, ◌*◌, ◌/◌, ◌%◌, ◌^◌, ◌<◌}
use mathlib.Core.Path.{◌≡◌, refl, sym, ap, ap₂, ◌∙◌}
use mathlib.Core.List.{List, [], ◌∷◌, ◌++◌, map}
use mathlib.Core.Logic.{◌⊎◌, inl, inr, ⊎_elim}
use native.Mathlib.Omega.{arith}
use native.Mathlib.Nat.{pow-suc, div-eq_of_lt}
use lib.Bits.{bit_xor, xor_zero_r, xor_lt, xor_self, xor_shr}
use lib.ListN.{length, get_or, replicate}
use lib.Arith.{lt-one}
use lib.Pow.{pow_pos, shr-shr, field, mod-mod-pow}
use lib.Seq.{ext_get_or}
use native.Mathlib.Numerals.{add-one}
use Rattle.kinds.proofs.FrameLaws.{in_order_length, in_order_at, in_order_same, in_order_map}
use Rattle.bits.specs.Image.{chosen, image, AllBelow, Linear, columns}
use Rattle.bits.proofs.XorLaws.{even_or_odd, xor_half, xor_low, xor_swap, xor_assoc, xor_double, xor_split}
use Rattle.bits.proofs.ParityLaws.{unit_half, unit_low}

pub below_one : (b c : ℕ) → c < b → AllBelow b (c ∷ [])
below_one b c h zero l = h
below_one b c h (suc j) l = absurd (omega arith)

pub below_append : (b : ℕ) (cs ds : List ℕ) → AllBelow b cs → AllBelow b ds → AllBelow b (cs ++ ds)
below_append b [] ds h k j l = k j l
below_append b (c ∷ cs) ds h k zero l = h 0 (omega arith)
below_append b (c ∷ cs) ds h k (suc j) l = below_append b cs ds (λ i g. h (suc i) (omega arith)) k j (omega arith)

pub image_nil : (x : ℕ) → image [] x ≡ 0
unfolding image
image_nil x = refl

pub image_cons : (c : ℕ) (cs : List ℕ) (x : ℕ) → image (c ∷ cs) x ≡ bit_xor (chosen (x % 2) c) (image cs (x / 2))
unfolding image
image_cons c cs x = refl

pub image_zero : (cs : List ℕ) → image cs 0 ≡ 0
unfolding image
image_zero [] = refl
image_zero (c ∷ cs) = image_zero cs

pub chosen_zero : (b : ℕ) → chosen b 0 ≡ 0
chosen_zero zero = refl
chosen_zero (suc b) = refl

pub chosen_xor : (a b c : ℕ) → chosen ((a + b) % 2) c ≡ bit_xor (chosen (a % 2) c) (chosen (b % 2) c)
chosen_xor a b c = go (even_or_odd a) (even_or_odd b)
  where
    go : (a % 2 ≡ 0) ⊎ (a % 2 ≡ 1) → (b % 2 ≡ 0) ⊎ (b % 2 ≡ 1) → chosen ((a + b) % 2) c ≡ bit_xor (chosen (a % 2) c) (chosen (b % 2) c)
    go (inl p) (inl q) = let s : (a + b) % 2 ≡ 0 = omega arith in rw (s, p, q)
    go (inl p) (inr q) = let s : (a + b) % 2 ≡ 1 = omega arith in rw (s, p, q)
    go (inr p) (inl q) = let s : (a + b) % 2 ≡ 1 = omega arith in rw (s, p, q) (sym (xor_zero_r c))
    go (inr p) (inr q) = let s : (a + b) % 2 ≡ 0 = omega arith in rw (s, p, q) (sym (xor_self c))

pub image_xor : (cs : List ℕ) → Linear (image cs)
unfolding image
image_xor [] x y = refl
image_xor (c ∷ cs) x y =
    ap₂ (λ (a b : ℕ). bit_xor (chosen a c) b) (xor_low x y) (ap (image cs) (xor_half x y) ∙ image_xor cs (x / 2) (y / 2))
    ∙ ap (λ (a : ℕ). bit_xor a (bit_xor (image cs (x / 2)) (image cs (y / 2)))) (chosen_xor x y c)
    ∙ xor_swap (chosen (x % 2) c) (chosen (y % 2) c) (image cs (x / 2)) (image cs (y / 2))

pub zeros_at : (m j : ℕ) → ◌≡◌ {A = ℕ} (get_or (replicate m 0) j 0) 0
zeros_at zero j = refl
zeros_at (suc m) zero = refl
zeros_at (suc m) (suc j) = zeros_at m j

pub image_unit : (cs : List ℕ) (j : ℕ) → image cs (2 ^ j) ≡ get_or cs j 0
unfolding image
image_unit [] j = refl
image_unit (c ∷ cs) zero = ap (bit_xor c) (image_zero cs) ∙ xor_zero_r c
image_unit (c ∷ cs) (suc j) = rw (unit_half j, unit_low j) (image_unit cs j)

pub chosen_lt : (b c m : ℕ) → c < 2 ^ m → chosen b c < 2 ^ m
chosen_lt zero c m h = pow_pos m
chosen_lt (suc b) c m h = h

pub image_lt : (m : ℕ) (cs : List ℕ) → AllBelow (2 ^ m) cs → (x : ℕ) → image cs x < 2 ^ m
unfolding image
image_lt m [] h x = pow_pos m
image_lt m (c ∷ cs) h x =
    xor_lt m (chosen (x % 2) c) (image cs (x / 2)) (chosen_lt (x % 2) c m (h 0 (omega arith)))
    (image_lt m cs (λ j l. h (suc j) (omega arith)) (x / 2))

pub image_append : (cs ds : List ℕ) (x : ℕ) → image (cs ++ ds) x ≡ bit_xor (image cs x) (image ds (x / 2 ^ length cs))
unfolding image
image_append [] ds x = ap (image ds) (omega arith)
image_append (c ∷ cs) ds x =
    ap (bit_xor (chosen (x % 2) c)) (image_append cs ds (x / 2) ∙ ap (λ (y : ℕ). bit_xor (image cs (x / 2)) (image ds y)) (shr-shr x 1 (length cs) ∙ ap (λ (e : ℕ). x / 2 ^ e) (omega arith)))
    ∙ sym (xor_assoc (chosen (x % 2) c) (image cs (x / 2)) (image ds (x / 2 ^ suc (length cs))))

pub image_prefix : (cs ds : List ℕ) (x : ℕ) → x < 2 ^ length cs → image (cs ++ ds) x ≡ image cs x
image_prefix cs ds x h =
    image_append cs ds x ∙ ap (λ (q : ℕ). bit_xor (image cs x) (image ds q)) (div-eq_of_lt h)
    ∙ ap (bit_xor (image cs x)) (image_zero ds) ∙ xor_zero_r (image cs x)

pub image_snoc : (cs : List ℕ) (c x : ℕ) → image (cs ++ (c ∷ [])) x ≡ bit_xor (image cs x) (chosen (x / 2 ^ length cs % 2) c)
unfolding image
image_snoc cs c x = image_append cs (c ∷ []) x ∙ ap (bit_xor (image cs x)) (xor_zero_r (chosen (x / 2 ^ length cs % 2) c))

pub image_mod : (cs : List ℕ) (x : ℕ) → image cs (x % 2 ^ length cs) ≡ image cs x
unfolding image
image_mod [] x = refl
image_mod (c ∷ cs) x =
    ap (λ (e : ℕ). image (c ∷ cs) (x % 2 ^ e)) (sym (add-one (length cs)))
    ∙ ap₂ (λ (a b : ℕ). bit_xor (chosen a c) b) (mod-mod-pow x (length cs) 1)
    (ap (image cs) (field x (length cs) 1) ∙ image_mod cs (x / 2))

pub linear_zero : (f : ℕ → ℕ) → Linear f → f 0 ≡ 0
linear_zero f l = l 0 0 ∙ xor_self (f 0)

pub linear_chosen : (f : ℕ → ℕ) → Linear f → (b c : ℕ) → f (chosen b c) ≡ chosen b (f c)
linear_chosen f l zero c = linear_zero f l
linear_chosen f l (suc b) c = refl

pub linear_map : (f : ℕ → ℕ) → Linear f → (cs : List ℕ) (x : ℕ) → f (image cs x) ≡ image (map f cs) x
unfolding image
linear_map f l [] x = linear_zero f l
linear_map f l (c ∷ cs) x =
    l (chosen (x % 2) c) (image cs (x / 2)) ∙ ap₂ bit_xor (linear_chosen f l (x % 2) c) (linear_map f l cs (x / 2))

pub image_image : (bs cs : List ℕ) (x : ℕ) → image bs (image cs x) ≡ image (map (image bs) cs) x
image_image bs = linear_map (image bs) (image_xor bs)

pub columns_length : (n : ℕ) (f : ℕ → ℕ) → length (columns n f) ≡ n
unfolding columns
columns_length n f = in_order_length n (λ j. f (2 ^ j))

pub columns_at : (n : ℕ) (f : ℕ → ℕ) (j : ℕ) → j < n → get_or (columns n f) j 0 ≡ f (2 ^ j)
unfolding columns
columns_at n f = in_order_at n (λ j. f (2 ^ j)) 0

pub columns_below : (n b : ℕ) (f : ℕ → ℕ) → ((j : ℕ) → j < n → f (2 ^ j) < b) → AllBelow b (columns n f)
columns_below n b f below j h = let k : j < n = omega (arith, columns_length n f) in rw (columns_at n f j k) (below j k)

pub columns_image : (cs : List ℕ) → columns (length cs) (image cs) ≡ cs
columns_image cs =
    ext_get_or 0 (columns (length cs) (image cs)) cs (columns_length (length cs) (image cs))
    (λ j h. columns_at (length cs) (image cs) j (rw columns_length at h) ∙ image_unit cs j)

columns_none : (f : ℕ → ℕ) → columns 0 f ≡ []
unfolding columns
columns_none f = refl

columns_cons : (n : ℕ) (f : ℕ → ℕ) → columns (suc n) f ≡ f 1 ∷ columns n (λ x. f (2 * x))
unfolding columns
columns_cons n f =
    ap (λ (l : List ℕ). f 1 ∷ l) (in_order_same n (λ j. f (2 ^ suc j)) (λ j. f (2 * 2 ^ j)) (λ j h. ap f (omega (arith, pow-suc 2 j))))

linear_double : (f : ℕ → ℕ) → Linear f → Linear (λ x. f (2 * x))
linear_double f l x y = ap f (xor_double x y) ∙ l (2 * x) (2 * y)

low_chosen : (x : ℕ) → x % 2 ≡ chosen (x % 2) 1
low_chosen x = ⊎_elim (λ e. rw e) (λ e. rw e) (even_or_odd x)

pub linear_image : (n : ℕ) (f : ℕ → ℕ) → Linear f → (x : ℕ) → x < 2 ^ n → f x ≡ image (columns n f) x
unfolding image
linear_image zero f l x h = ap f (lt-one h) ∙ linear_zero f l ∙ sym (ap (λ (cs : List ℕ). image cs x) (columns_none f))
linear_image (suc n) f l x h =
    ap f (xor_split x)
    ∙ l (x % 2) (2 * (x / 2))
    ∙ ap₂ bit_xor (ap f (low_chosen x) ∙ linear_chosen f l (x % 2) 1)
    (linear_image n (λ y. f (2 * y)) (linear_double f l) (x / 2) (omega (arith, pow-suc 2 n)))
    ∙ sym (ap (λ (cs : List ℕ). image cs x) (columns_cons n f))

pub image_identity : (k p : ℕ) → p < 2 ^ k → image (columns k (λ p. p)) p ≡ p
image_identity k p h = sym (linear_image k (λ p. p) (λ x y. refl) p h)

pub image_shifted : (n a x : ℕ) → x < 2 ^ n → image (columns n (λ x. x / 2 ^ a)) x ≡ x / 2 ^ a
image_shifted n a x h = sym (linear_image n (λ x. x / 2 ^ a) (λ x y. xor_shr x y a) x h)

pub columns_map : (n : ℕ) (f g : ℕ → ℕ) → map g (columns n f) ≡ columns n (λ x. g (f x))
unfolding columns
columns_map n f g = in_order_map g n (λ j. f (2 ^ j))

pub columns_same : (n : ℕ) (f g : ℕ → ℕ) → ((j : ℕ) → j < n → f (2 ^ j) ≡ g (2 ^ j)) → columns n f ≡ columns n g
columns_same n f g same =
    ext_get_or 0 (columns n f) (columns n g) (columns_length n f ∙ sym (columns_length n g))
    (λ j h.
    let k : j < n = omega (arith, columns_length n f) in columns_at n f j k ∙ same j k ∙ sym (columns_at n g j k))

pub linear_agree : (n : ℕ) (f g : ℕ → ℕ) → Linear f → Linear g → ((j : ℕ) → j < n → f (2 ^ j) ≡ g (2 ^ j))
    → (x : ℕ) → x < 2 ^ n → f x ≡ g x
linear_agree n f g l m same x b =
    linear_image n f l x b ∙ ap (λ (cs : List ℕ). image cs x) (columns_same n f g same) ∙ sym (linear_image n g m x b)

lt_two_to : (x : ℕ) → x < 2 ^ x
lt_two_to zero = omega arith
lt_two_to (suc x) = omega (arith, pow-suc 2 x, lt_two_to x)

pub same_image : (cs ds : List ℕ) → ((j : ℕ) → get_or cs j 0 ≡ get_or ds j 0) → (x : ℕ) → image cs x ≡ image ds x
same_image cs ds same x =
    linear_agree x (image cs) (image ds) (image_xor cs) (image_xor ds) (λ j h. image_unit cs j ∙ same j ∙ sym (image_unit ds j)) x (lt_two_to x)
