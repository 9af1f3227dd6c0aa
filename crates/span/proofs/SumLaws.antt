-- Sums of a list, and lists that are independent.
--   length_snoc         one member more
--   sum_image           any number serves as a mask: its bits above the list select nothing
--   sum_zero, sum_xor   0 is a sum, and so is the exclusive or of two sums
--   sum_member          each member is a sum
--   sum_trans, span_trans    sums of sums are sums
--   sum_left, sum_right      sums of a part are sums of the whole
--   sum_map             a linear map takes sums to sums of the values
--   independent_injective, injective_independent    independent: no two masks select one sum
--   sum_snoc            a sum of a list with v added is a sum of the list, or one with v taken away
--   sum_append          a sum of two lists together is a sum of each
--   independent_left    a list's beginning is independent if the list is
--   independent_nil     the empty list is independent
--   independent_snoc    a number that is no sum of an independent list leaves it independent
--   independent_le      an independent list of sums of another is no longer than that one
--   independent_width   an independent list of numbers of k bits has at most k members
--   map_independent     a linear map that is injective on the numbers of m bits keeps independent ones independent
--   spanning_width      a list of which every number of k bits is a sum has at least k members
--   independent_bijection, bijection_independent    n columns of n bits are independent exactly when their image is a bijection
use Prim.Native.Nat.{ℕ, zero, suc, ◌+◌, ◌*◌, ◌/◌, ◌%◌, ◌^◌, ◌≤◌, ◌<◌}
use mathlib.Core.Path.{◌≡◌, sym, ap, ◌∙◌}
use mathlib.Core.List.{List, [], ◌∷◌, ◌++◌, map}
use mathlib.Core.Logic.{◌⊎◌, inl, inr, ⊎_elim}
use native.Mathlib.Decide.{dec_lt}
use native.Mathlib.Omega.{arith}
use native.Mathlib.Nat.{mod-lt, pow-suc, div-eq_of_lt-le, lt_of_lt_of_le}
use native.Mathlib.Numerals.{add-one}
use lib.Arith.{lt-one}
use lib.Bits.{bit_xor, xor_self, xor_lt}
use lib.ListN.{length, get_or, length-append, length-map, get_or-append}
use lib.Pow.{pow_pos, pow_mono}
use lib.Seq.{get_or-append-add}
use Rattle.bits.specs.Image.{image, AllBelow, Linear, chosen}
use Rattle.bits.proofs.XorLaws.{xor_cancel_right, xor_zero_eq}
use Rattle.bits.proofs.ImageLaws.{image_zero, image_xor, image_unit, image_mod, image_append, image_prefix, image_lt, image_cons, image_nil, image_snoc, linear_zero, linear_map}
use Rattle.span.specs.Maps.{Injective, Bijection}
use Rattle.span.specs.Sums.{SumOf, Independent}
use Rattle.span.proofs.Counting.{injective_width, onto_width, injective_bijection}

pub length_snoc : (cs : List ℕ) (v : ℕ) → length (cs ++ (v ∷ [])) ≡ suc (length cs)
length_snoc cs v = length-append cs (v ∷ []) ∙ add-one (length cs)

pub sum_image : (cs : List ℕ) (m : ℕ) → SumOf cs (image cs m)
sum_image cs m = record { selected = m % 2 ^ length cs; below = mod-lt m (pow_pos (length cs)); sum = image_mod cs m }

pub sum_zero : (cs : List ℕ) → SumOf cs 0
sum_zero cs = rw (image_zero cs) at (sum_image cs 0)

pub sum_xor : {cs : List ℕ} {v w : ℕ} → SumOf cs v → SumOf cs w → SumOf cs (bit_xor v w)
sum_xor {cs} s t = rw (image_xor cs s.selected t.selected, s.sum, t.sum) at (sum_image cs (bit_xor s.selected t.selected))

pub sum_member : (cs : List ℕ) (j : ℕ) → SumOf cs (get_or cs j 0)
sum_member cs j = rw (image_unit cs j) at (sum_image cs (2 ^ j))

sum_chosen : {ds : List ℕ} (b : ℕ) {v : ℕ} → SumOf ds v → SumOf ds (chosen b v)
sum_chosen {ds} zero s = sum_zero ds
sum_chosen (suc b) s = s

pub sum_trans : (cs ds : List ℕ) → ((j : ℕ) → j < length cs → SumOf ds (get_or cs j 0)) → (m : ℕ) → SumOf ds (image cs m)
sum_trans [] ds h m = rw image_nil (sum_zero ds)
sum_trans (c ∷ cs) ds h m =
    rw (image_cons c cs m) (sum_xor (sum_chosen (m % 2) (h 0 (omega arith))) (sum_trans cs ds (λ j l. h (suc j) (omega arith)) (m / 2)))

pub span_trans : {cs ds : List ℕ} {v : ℕ} → ((j : ℕ) → j < length cs → SumOf ds (get_or cs j 0)) → SumOf cs v → SumOf ds v
span_trans {cs} {ds} h s = rw s.sum at (sum_trans cs ds h s.selected)

pub sum_left : {cs : List ℕ} (ds : List ℕ) {v : ℕ} → SumOf cs v → SumOf (cs ++ ds) v
sum_left {cs} ds = span_trans {cs = cs} (λ j h. rw (get_or-append cs ds 0 j h) at (sum_member (cs ++ ds) j))

pub sum_right : (cs : List ℕ) {ds : List ℕ} {v : ℕ} → SumOf ds v → SumOf (cs ++ ds) v
sum_right cs {ds} = span_trans {cs = ds} (λ j h. rw (get_or-append-add cs ds j 0) at (sum_member (cs ++ ds) (length cs + j)))

pub sum_map : (f : ℕ → ℕ) → Linear f → {cs : List ℕ} {v : ℕ} → SumOf cs v → SumOf (map f cs) (f v)
sum_map f linear {cs} s = rw (sym (linear_map f linear cs s.selected) ∙ ap f s.sum) at (sum_image (map f cs) s.selected)

pub sum_append : (cs ds : List ℕ) {v : ℕ} → SumOf (cs ++ ds) v → (w u : ℕ) × SumOf cs w × SumOf ds u × (bit_xor w u ≡ v)
sum_append cs ds s =
    let m = s.selected in
    let rest = m / 2 ^ length cs in
    (image cs m, image ds rest, sum_image cs m, sum_image ds rest, sym (image_append cs ds m) ∙ s.sum)

-- a mask over one member more has the last bit, or is a mask without it
snoc_cases : (cs : List ℕ) (v m : ℕ) → m < 2 ^ length (cs ++ (v ∷ []))
    → ((m < 2 ^ length cs) × (image (cs ++ (v ∷ [])) m ≡ image cs m)) ⊎ (image (cs ++ (v ∷ [])) m ≡ bit_xor (image cs m) v)
snoc_cases cs v m h = elim (dec_lt m (2 ^ length cs)) [
  | yes low ↦ inl (low, image_prefix cs (v ∷ []) m low)
  | no high ↦
      let short : m < 2 ^ length cs * 2 = rw (length_snoc cs v, pow-suc 2 (length cs)) at h in
      let one : m / 2 ^ length cs ≡ 1 = div-eq_of_lt-le (2 ^ length cs) (omega arith) (omega arith) in
      inr (image_snoc cs v m ∙ ap (λ (q : ℕ). bit_xor (image cs m) (chosen (q % 2) v)) one)
]

pub sum_snoc : (cs : List ℕ) (v w : ℕ) → SumOf (cs ++ (v ∷ [])) w → SumOf cs w ⊎ SumOf cs (bit_xor w v)
sum_snoc cs v w s = ⊎_elim
    (λ low. inl (record { selected = s.selected; below = low.0; sum = sym low.1 ∙ s.sum }))
    (λ top.
    let m = s.selected in
    let less : image cs m ≡ bit_xor w v = sym (xor_cancel_right (image cs m) v) ∙ ap (λ (x : ℕ). bit_xor x v) (sym top ∙ s.sum) in
    inr (rw less at (sum_image cs m)))
    (snoc_cases cs v s.selected s.below)

pub independent_injective : (cs : List ℕ) → Independent cs → Injective (image cs) (2 ^ length cs)
independent_injective cs ind i j h k e =
    xor_zero_eq i j
    (ind (bit_xor i j) (xor_lt (length cs) i j h k) (image_xor cs i j ∙ ap (bit_xor (image cs i)) (sym e) ∙ xor_self (image cs i)))

pub injective_independent : (cs : List ℕ) → Injective (image cs) (2 ^ length cs) → Independent cs
injective_independent cs inj m h e = inj m 0 h (pow_pos (length cs)) (e ∙ sym (image_zero cs))

pub independent_nil : Independent []
independent_nil m h e = lt-one h

pub independent_left : (cs ds : List ℕ) → Independent (cs ++ ds) → Independent cs
independent_left cs ds ind m h e =
    ind m (lt_of_lt_of_le h (pow_mono (omega (arith, length-append cs ds)))) (image_prefix cs ds m h ∙ e)

pub independent_snoc : (cs : List ℕ) (v : ℕ) → Independent cs → ¬ SumOf cs v → Independent (cs ++ (v ∷ []))
independent_snoc cs v ind out m h e = ⊎_elim
    (λ low. ind m low.0 (sym low.1 ∙ e))
    (λ top. absurd (out (rw (xor_zero_eq (image cs m) v (sym top ∙ e)) at (sum_image cs m))))
    (snoc_cases cs v m h)

pub independent_le : (cs ds : List ℕ) → Independent cs → ((j : ℕ) → j < length cs → SumOf ds (get_or cs j 0)) → length cs ≤ length ds
independent_le cs ds ind sums = injective_width {f = λ m. (sum_trans cs ds sums m).selected}
    (λ m h. (sum_trans cs ds sums m).below)
    (λ i j h k e.
    independent_injective cs ind i j h k
    (sym (sum_trans cs ds sums i).sum ∙ ap (image ds) e ∙ (sum_trans cs ds sums j).sum))

pub independent_width : (k : ℕ) (cs : List ℕ) → AllBelow (2 ^ k) cs → Independent cs → length cs ≤ k
independent_width k cs b ind = injective_width (λ m h. image_lt k cs b m) (independent_injective cs ind)

pub map_independent : (m : ℕ) (g : ℕ → ℕ) → Linear g → Injective g (2 ^ m) → (vs : List ℕ) → AllBelow (2 ^ m) vs → Independent vs → Independent (map g vs)
map_independent m g linear injective vs below ind s h e =
    ind s (rw length-map at h)
    (injective (image vs s) 0 (image_lt m vs below s) (pow_pos m) (linear_map g linear vs s ∙ e ∙ sym (linear_zero g linear)))

pub spanning_width : (k : ℕ) (cs : List ℕ) → ((v : ℕ) → v < 2 ^ k → SumOf cs v) → k ≤ length cs
spanning_width k cs sums = onto_width {f = image cs} (λ v h. ((sums v h).selected, (sums v h).below, (sums v h).sum))

pub independent_bijection : (n : ℕ) (cs : List ℕ) → length cs ≡ n → AllBelow (2 ^ n) cs → Independent cs → Bijection (image cs) (2 ^ n)
independent_bijection n cs e b ind = injective_bijection (λ m h. image_lt n cs b m) (rw e at (independent_injective cs ind))

pub bijection_independent : (n : ℕ) (cs : List ℕ) → length cs ≡ n → Bijection (image cs) (2 ^ n) → Independent cs
bijection_independent n cs e bij = injective_independent cs (rw e bij.injective)
