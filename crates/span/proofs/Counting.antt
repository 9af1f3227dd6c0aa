-- Counting by maps. One step serves all: an injective map into b that misses some y < b is into b - 1 once its value b - 1 is redirected to y.
--   pigeonhole            no injective map from a into b unless a ≤ b
--   apart_injective       a map that sends no number to what it sends a later one to is injective
--   injective_onto        an injective map of the numbers below N is onto
--   preimages             a map onto has a preimage of each number, to be computed
--   onto_injective        a map onto the numbers below N is injective
--   injective_bijection, onto_bijection    an injective map of the numbers below N is a bijection, and so is one onto them
--   bijection_same        a map that agrees with a bijection below N is one
--   bijection_inverse     a bijection has an inverse, to be computed
--   pow_injective_le      powers of two are in the order of their exponents
--   injective_width       no injective map from a bits into b bits unless a ≤ b
--   onto_width            no map from s bits onto k bits unless k ≤ s
use Prim.Native.Nat.{ℕ, zero, suc, ◌-◌, ◌^◌, ◌≤◌, ◌<◌, zero-le}
use mathlib.Core.Path.{◌≡◌, sym, ◌∙◌}
use mathlib.Core.Logic.{◌≢◌}
use native.Mathlib.Nat.{le_step, ne_of_lt}
use native.Mathlib.Decide.{ℕ_discrete, dec_le, dec_lt}
use native.Mathlib.Omega.{arith}
use lib.Pow.{pow-lt}
use Rattle.span.specs.Maps.{Into, Injective, Onto, Bijection}
use Rattle.kinds.specs.Decided.{some_below}

pub apart_injective : {f : ℕ → ℕ} {a : ℕ} → ((i j : ℕ) → i < j → j < a → f i ≢ f j) → Injective f a
apart_injective apart i j h l same = elim (dec_lt i j) [
  | yes less ↦ absurd (apart i j less l same)
  | no not ↦ elim (dec_lt j i) [ yes more ↦ absurd (apart j i more h (sym same)) | no neither ↦ omega arith ]
]

-- x, but y where x is top
abbrev instead : {x top : ℕ} → Dec (x ≡ top) → ℕ → ℕ
instead (yes e) y = y
instead {x} (no ne) y = x

instead_lt : {x y b : ℕ} (d : Dec (x ≡ b - 1)) → x ≢ y → x < b → y < b → instead d y < b - 1
instead_lt (yes e) m h l = omega arith
instead_lt (no ne) m h l = omega arith

instead_injective : {x z y top : ℕ} (d : Dec (x ≡ top)) (c : Dec (z ≡ top)) → x ≢ y → z ≢ y → instead d y ≡ instead c y → x ≡ z
instead_injective (yes e) (yes q) m n p = cc
instead_injective (yes e) (no nq) m n p = omega arith
instead_injective (no ne) (yes q) m n p = omega arith
instead_injective (no ne) (no nq) m n p = p

redirected : {f : ℕ → ℕ} {a b y : ℕ} → Into f a b → Injective f a → y < b → ((i : ℕ) → i < a → f i ≢ y)
    → (g : ℕ → ℕ) × Into g a (b - 1) × Injective g a
redirected {f} {b} {y} into injective h missed = (
  λ i. instead (top? i) y,
  λ i l. instead_lt (top? i) (missed i l) (into i l) h,
  λ i j l k e. injective i j l k (instead_injective (top? i) (top? j) (missed i l) (missed j k) e),
)
  where
    top? : (i : ℕ) → Dec (f i ≡ b - 1)
    top? i = ℕ_discrete (f i) (b - 1)

pub pigeonhole : {a : ℕ} {f : ℕ → ℕ} {b : ℕ} → Into f a b → Injective f a → a ≤ b
pigeonhole {a = zero} into injective = zero-le
pigeonhole {a = suc a} {f} into injective =
    let last : a < suc a = omega arith in
    let missed : (i : ℕ) → i < a → f i ≢ f a = λ i h e. ne_of_lt h (injective i a (le_step h) last e) in
    let g = redirected (λ i h. into i (le_step h)) (λ i j h k. injective i j (le_step h) (le_step k)) (into a last) missed in
    omega (arith, pigeonhole {a = a} g.1 g.2, into a last)

pub injective_onto : {f : ℕ → ℕ} {N : ℕ} → Into f N N → Injective f N → Onto f N N
injective_onto {f} {N} into injective y h = elim (some_below (λ i. ℕ_discrete (f i) y) N) [
  | yes found ↦ found
  | no none ↦ let g = redirected into injective h (λ i l e. none (i, l, e)) in absurd (omega (arith, pigeonhole g.1 g.2))
]

pub preimages : {f : ℕ → ℕ} {a b : ℕ} → Onto f a b → (g : ℕ → ℕ) × Into g b a × Injective g b × ((y : ℕ) → y < b → f (g y) ≡ y)
preimages {f} {a} {b} onto = (
  λ y. (chosen y).0,
  λ y h. ((chosen y).1 h).0,
  λ y z h k e. cc (((chosen y).1 h).1, ((chosen z).1 k).1),
  λ y h. ((chosen y).1 h).1,
)
  where
    chosen : (y : ℕ) → (x : ℕ) × (y < b → (x < a) × (f x ≡ y))
    chosen y = elim (dec_lt y b) [ yes h ↦ ((onto y h).0, λ l. ((onto y h).1, (onto y h).2)) | no nh ↦ (zero, λ h. absurd (nh h)) ]

pub onto_injective : {f : ℕ → ℕ} {N : ℕ} → Onto f N N → Injective f N
onto_injective onto i j h k e =
    let g = preimages onto in
    let y = injective_onto g.1 g.2 i h in
    let z = injective_onto g.1 g.2 j k in
    cc (g.3 y.0 y.1, g.3 z.0 z.1, y.2, z.2)

pub injective_bijection : {f : ℕ → ℕ} {N : ℕ} → Into f N N → Injective f N → Bijection f N
injective_bijection into injective = record { into = into; injective = injective; onto = injective_onto into injective }

pub onto_bijection : {f : ℕ → ℕ} {N : ℕ} → Into f N N → Onto f N N → Bijection f N
onto_bijection into onto = record { into = into; injective = onto_injective onto; onto = onto }

pub bijection_same : {f g : ℕ → ℕ} {N : ℕ} → ((i : ℕ) → i < N → f i ≡ g i) → Bijection g N → Bijection f N
bijection_same same b =
    injective_bijection (λ i h. rw (same i h) (b.into i h)) (λ i j h k e. b.injective i j h k (sym (same i h) ∙ e ∙ same j k))

pub bijection_inverse : {f : ℕ → ℕ} {N : ℕ} → Bijection f N
    → (g : ℕ → ℕ) × Into g N N × ((y : ℕ) → y < N → f (g y) ≡ y) × ((x : ℕ) → x < N → g (f x) ≡ x)
bijection_inverse {f} b =
    let g = preimages b.onto in
    (g.0, g.1, g.3, λ x h. b.injective (g.0 (f x)) x (g.1 (f x) (b.into x h)) h (g.3 (f x) (b.into x h)))

pub pow_injective_le : {a b : ℕ} → 2 ^ a ≤ 2 ^ b → a ≤ b
pow_injective_le {a} {b} h = elim (dec_le a b) [ yes l ↦ l | no nl ↦ absurd (omega (arith, pow-lt {i = b} {j = a} (omega arith))) ]

pub injective_width : {f : ℕ → ℕ} {a b : ℕ} → Into f (2 ^ a) (2 ^ b) → Injective f (2 ^ a) → a ≤ b
injective_width into injective = pow_injective_le (pigeonhole into injective)

pub onto_width : {f : ℕ → ℕ} {s k : ℕ} → Onto f (2 ^ s) (2 ^ k) → k ≤ s
onto_width onto = let g = preimages onto in injective_width g.1 g.2
