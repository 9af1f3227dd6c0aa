-- The ticks of a frame, and values in order.
--   frame_whole         2^t ticks of 2^k words are a frame
--   tick_lt             a word of a frame comes on one of its 2^t ticks
--   port_lt             a word comes at one of 2^k ports
--   word_lt             a tick and a port of a frame make a word of it
--   tick_unit           2^j is the word of tick 2^(j-k) at port 0
--   in_order_length     m values in order are m
--   in_order_at         the value at a place below m is that of the place
--   in_order_is         a list of m values that are these is this one
--   in_order_same       maps that agree at each place below m give the same values
--   in_order_snoc       one value more
--   in_order_take       the first l of the values
--   in_order_map        a map of each of the values
use Prim.Native.Nat.{ℕ, zero, suc, ◌-◌, ◌*◌, ◌^◌, ◌<◌, ◌≤◌}
use mathlib.Core.Path.{◌≡◌, refl, sym, ap, ap₂, ◌∙◌}
use mathlib.Core.List.{List, [], ◌∷◌, ◌++◌, map}
use native.Mathlib.Nat.{div-lt_iff_lt-mul, mod-lt}
use native.Mathlib.Omega.{arith}
use lib.Arith.{digits_lt}
use lib.ListN.{length, get_or, take}
use lib.Pow.{pow_pos, pow-add}
use lib.Seq.{ext_get_or}
use Rattle.kinds.specs.Frame.{tick_bits, ticks, tick_of, port_of, word_at, in_order}

pub frame_whole : {n k : ℕ} → k ≤ n → ticks n k * 2 ^ k ≡ 2 ^ n
frame_whole {n} {k} within = sym (pow-add 2 (tick_bits n k) k) ∙ ap (λ (i : ℕ). 2 ^ i) (omega arith)

pub tick_lt : {n k i : ℕ} → k ≤ n → i < 2 ^ n → tick_of k i < ticks n k
tick_lt {k = k} within h = (div-lt_iff_lt-mul (pow_pos k)).1 (rw (frame_whole within) h)

pub port_lt : (k i : ℕ) → port_of k i < 2 ^ k
port_lt k i = mod-lt i (pow_pos k)

pub word_lt : {n k c p : ℕ} → k ≤ n → c < ticks n k → p < 2 ^ k → word_at k c p < 2 ^ n
word_lt within tick port = rw (← frame_whole within) (digits_lt tick port)

pub tick_unit : {k j : ℕ} → k ≤ j → word_at k (2 ^ (j - k)) 0 ≡ 2 ^ j
tick_unit h = omega (arith, frame_whole h)

module _ {A : Type 0} where
  pub in_order_length : (m : ℕ) (f : ℕ → A) → length (in_order m f) ≡ m
  unfolding in_order
  in_order_length zero f = refl
  in_order_length (suc m) f = ap suc (in_order_length m (λ i. f (suc i)))

  pub in_order_at : (m : ℕ) (f : ℕ → A) (d : A) (i : ℕ) → i < m → get_or (in_order m f) i d ≡ f i
  unfolding in_order
  in_order_at zero f d i h = absurd (omega arith)
  in_order_at (suc m) f d zero h = refl
  in_order_at (suc m) f d (suc i) h = in_order_at m (λ j. f (suc j)) d i (omega arith)

  pub in_order_is : (m : ℕ) (f : ℕ → A) (d : A) (l : List A) → length l ≡ m → ((i : ℕ) → i < m → get_or l i d ≡ f i) → l ≡ in_order m f
  in_order_is m f d l e h =
      ext_get_or d l (in_order m f) (e ∙ sym (in_order_length m f)) (λ i k. h i (omega (arith, e)) ∙ sym (in_order_at m f d i (omega (arith, e))))

  pub in_order_same : (m : ℕ) (f g : ℕ → A) → ((i : ℕ) → i < m → f i ≡ g i) → in_order m f ≡ in_order m g
  unfolding in_order
  in_order_same zero f g same = refl
  in_order_same (suc m) f g same = ap₂ ◌∷◌ (same 0 (omega arith)) (in_order_same m (λ i. f (suc i)) (λ i. g (suc i)) (λ i h. same (suc i) (omega arith)))

  pub in_order_snoc : (m : ℕ) (f : ℕ → A) → in_order (suc m) f ≡ in_order m f ++ (f m ∷ [])
  unfolding in_order
  in_order_snoc zero f = refl
  in_order_snoc (suc m) f = ap (λ (l : List A). f 0 ∷ l) (in_order_snoc m (λ i. f (suc i)))

  pub in_order_take : (l m : ℕ) (f : ℕ → A) → l ≤ m → take l (in_order m f) ≡ in_order l f
  unfolding in_order
  in_order_take zero m f h = refl
  in_order_take (suc l) zero f h = absurd (omega arith)
  in_order_take (suc l) (suc m) f h = ap (◌∷◌ (f 0)) (in_order_take l m (λ i. f (suc i)) (omega arith))

pub in_order_map : {A B : Type 0} (g : A → B) (m : ℕ) (f : ℕ → A) → map g (in_order m f) ≡ in_order m (λ i. g (f i))
unfolding in_order
in_order_map g zero f = refl
in_order_map g (suc m) f = ap (◌∷◌ (g (f 0))) (in_order_map g m (λ i. f (suc i)))
