-- What a scan in hand holds: its entries are made of kept numbers, and any sum of those begins where a row does.
--   entry v m              the entry of the number v and the mask m
--   made_zero, made_xor    entries made of vs add up, masks and rows alike
--   made_entry, made_parts an entry by its row and its mask--   made_more              what is made of vs is made of vs with a number added
--   made_sum               the row of what is made is a sum of kept numbers
--   row_left               an entry above its mask has a row
--   row_high, row_place    the leading zeros of an entry are those of its row, fewer than `width`
--   entry_falls            an entry with as many leading zeros makes a number smaller
--   echelon_none           no entry, for the empty list
--   echelon_old, mask_old  the same entries, for a number that they make up; its mask
--   echelon_new, mask_new  what is left of a number that they don't make up is an entry of its own; its mask
--   made_up, no_sum        the first is a sum of kept ones, the second is none
--   not_kept, kept_rest    the first is not kept, the second is
use Prim.Native.Nat.{ℕ, ◌*◌, ◌+◌, ◌^◌, ◌≤◌, ◌<◌}
use mathlib.Core.Path.{◌≡◌, refl, sym, ap, ap₂, ◌∙◌}
use mathlib.Core.List.{List, [], ◌∷◌, ◌++◌}
use mathlib.Core.Logic.{◌≢◌, ◌⊎◌, inl, inr}
use native.Mathlib.Decide.{ℕ_discrete, dec_lt}
use native.Mathlib.Nat.{div-eq_of_lt}
use native.Mathlib.Omega.{arith}
use lib.Bits.{bit_xor, xor_comm, xor_self, xor_zero_r, xor_shr, xor_mod, xor_shifted}
use lib.Count.{count_leading_zeros, leading_of_zero}
use lib.ListN.{length, get_or, set, length-set, replicate}
use lib.Pow.{pow-lt, high, low, shl-shr}
use lib.Seq.{get_or-set_same, get_or-set_other}
use Rattle.bits.specs.Image.{image, AllBelow}
use Rattle.bits.proofs.XorLaws.{xor_assoc, xor_cancel, xor_swap, xor_zero_eq}
use Rattle.bits.proofs.ImageLaws.{zeros_at, below_append, below_one, image_nil, image_zero, image_xor, image_lt, image_prefix}
use Rattle.span.specs.Sums.{SumOf}
use Rattle.span.specs.Scan.{members, kept_at, kept, units, mask}
use Rattle.span.specs.Held.{width, row_of, mask_of, MadeOf, Echelon}
use Rattle.span.proofs.SumLaws.{length_snoc, sum_image, sum_zero, sum_xor, sum_snoc}
use Rattle.span.proofs.ScanLaws.{kept_at_below, kept_at_prefix, kept_at_more, IsKept}
use Rattle.span.proofs.MaskLaws.{image_over, over_below, mask_sum, mask_over, mask_unique, mask_kept}
use Rattle.span.proofs.RankLaws.{kept_all_below}
use Rattle.span.proofs.SnocLaws.{next_at, Is_kept_snoc, kept_old, kept_new}
use Rattle.span.proofs.LeadingLaws.{leading_lt, leading_falls, leading_high, leading_xor}

abbrev pub entry : ℕ → ℕ → ℕ
entry v m = v * 2 ^ width + m

pub made_zero : (vs : List ℕ) → MadeOf vs 0
made_zero vs = record { over_kept = sum_zero (units (kept_at vs (length vs))); sum = image_zero vs }

pub made_xor : {vs : List ℕ} {a b : ℕ} → MadeOf vs a → MadeOf vs b → MadeOf vs (bit_xor a b)
made_xor {vs} {a} {b} p q = record {
  over_kept = rw (xor_mod a b width) (sum_xor p.over_kept q.over_kept);
  sum =
      ap (image vs) (xor_mod a b width) ∙ image_xor vs (mask_of a) (mask_of b) ∙ ap₂ bit_xor p.sum q.sum ∙ sym (xor_shr a b width);
}

module _ {vs : List ℕ} {v m : ℕ} (h : m < 2 ^ width) where
  pub made_entry : SumOf (units (kept_at vs (length vs))) m → image vs m ≡ v → MadeOf vs (entry v m)
  made_entry s e = record { over_kept = rw (low v width h) s; sum = ap (image vs) (low v width h) ∙ e ∙ sym (high v width h) }

  pub made_parts : MadeOf vs (entry v m) → SumOf (units (kept_at vs (length vs))) m × (image vs m ≡ v)
  made_parts a = (rw (low v width h) at a.over_kept, (ap (image vs) (sym (low v width h)) ∙ a.sum ∙ high v width h))

pub made_sum : {vs : List ℕ} {e : ℕ} → MadeOf vs e → SumOf (kept vs) (row_of e)
unfolding kept
made_sum {vs} {e} a =
    let ps = kept_at vs (length vs) in
    let s = a.over_kept in
    rw (sym (image_over vs ps s.selected) ∙ ap (image vs) s.sum ∙ a.sum) at (sum_image (members vs ps) s.selected)

-- ---- leading zeros of an entry

pub row_high : {e : ℕ} → e < 2 ^ (width + width) → 2 ^ width ≤ e → count_leading_zeros (width + width) e ≡ count_leading_zeros width (row_of e)
row_high {e} = leading_high width width e

pub row_left : {e : ℕ} → 2 ^ width ≤ e → row_of e ≢ 0
row_left {e} h z = omega (arith, z)

left_row : {e : ℕ} → row_of e ≢ 0 → 2 ^ width ≤ e
left_row {e} n = elim (dec_lt e (2 ^ width)) [ yes l ↦ absurd (n (div-eq_of_lt l)) | no m ↦ omega arith ]

pub row_place : {e : ℕ} → e < 2 ^ (width + width) → 2 ^ width ≤ e → count_leading_zeros (width + width) e < width
row_place {e} fits long = rw (row_high fits long) (leading_lt width (row_of e) (omega arith) (row_left long))

entry_narrow : {es vs : List ℕ} → Echelon es vs → (z : ℕ) → get_or es z 0 < 2 ^ (width + width)
entry_narrow {es} {vs} h z = elim (ℕ_discrete (get_or es z 0) 0) [
  | yes e ↦ omega arith
  | no there ↦
      let row : row_of (get_or es z 0) < 2 ^ width = rw (h.sound z there).sum at (image_lt width vs h.narrow (mask_of (get_or es z 0))) in
      omega arith
]

pub entry_falls : {es vs : List ℕ} {left : ℕ} → Echelon es vs → left < 2 ^ (width + width) → 2 ^ width ≤ left
    → get_or es (count_leading_zeros (width + width) left) 0 ≢ 0 → bit_xor left (get_or es (count_leading_zeros (width + width) left) 0) < left
entry_falls {es} {vs} {left} h fits long there =
    let z = count_leading_zeros (width + width) left in
    let e = get_or es z 0 in
    let same = h.leading z there in
    let row : row_of e ≢ 0 = λ none. omega (arith, row_place fits long, same, ap (count_leading_zeros width) none, leading_of_zero width) in
    leading_falls (width + width) left e fits (entry_narrow h z) (λ none. omega arith) (row_high (entry_narrow h z) (left_row row) ∙ same)

-- ---- a number more

module _ (vs : List ℕ) (v : ℕ) where
  abbrev more : List ℕ
  more = vs ++ (v ∷ [])

  pub made_more : {e : ℕ} → MadeOf vs e → MadeOf more e
  made_more {e} a =
      let s = a.over_kept in
      let ps = kept_at vs (length vs) in
      let below : mask_of e < 2 ^ length vs = rw s.sum at (over_below (length vs) ps (kept_at_below vs (length vs)) s.selected) in
      record {
        over_kept = kept_at_more more (λ p. 2 ^ p) {i = length vs} (omega (arith, length_snoc vs v)) (rw (kept_at_prefix vs (v ∷ []) (length vs) (omega arith)) s);
        sum = image_prefix vs (v ∷ []) (mask_of e) below ∙ a.sum;
      }

  narrow_more : v < 2 ^ width → AllBelow (2 ^ width) vs → AllBelow (2 ^ width) more
  narrow_more h b = below_append (2 ^ width) vs (v ∷ []) b (below_one (2 ^ width) v h)

  -- v as a member of the longer list, by its own mask
  made_own : mask more (length vs) < 2 ^ width → MadeOf more (entry v (mask more (length vs)))
  made_own h = made_entry h (rw (length_snoc vs v) (mask_over more (length vs))) (mask_sum more (length vs) ∙ next_at vs v)

pub echelon_none : Echelon (replicate width 0) []
unfolding kept kept_at
echelon_none = record {
  places = refl;
  narrow = λ j h. absurd (omega arith);
  leading = λ z there. absurd (there (zeros_at width z));
  sound = λ z there. absurd (there (zeros_at width z));
  complete = λ w s n. absurd (n (sym s.sum ∙ image_nil s.selected));
}

-- v is made up by the mask m
module _ {vs : List ℕ} (v : ℕ) {m : ℕ} (short : m < 2 ^ width) (a : MadeOf vs (entry v m)) where
  pub made_up : SumOf (kept vs) v
  made_up = rw (high v width short) at (made_sum a)

  pub echelon_old : {es : List ℕ} → v < 2 ^ width → Echelon es vs → Echelon es (vs ++ (v ∷ []))
  echelon_old fits h = record {
    places = h.places;
    narrow = narrow_more vs v fits h.narrow;
    leading = h.leading;
    sound = λ z there. made_more vs v (h.sound z there);
    complete = λ w s. h.complete w (rw (kept_old vs v made_up) at s);
  }

  pub not_kept : ¬ IsKept (vs ++ (v ∷ [])) (length vs)
  not_kept k = (Is_kept_snoc vs v).0 k made_up

  pub mask_old : m ≡ mask (vs ++ (v ∷ [])) (length vs)
  mask_old =
      let p = made_parts {v = v} short (made_more vs v a) in
      mask_unique (vs ++ (v ∷ [])) (length vs) (omega arith) (rw (length_snoc vs v) at p.0) (p.1 ∙ sym (next_at vs v))

-- what was taken from v is a sum of those kept; were v one, so would be the row that is left
taken : {vs : List ℕ} (v left : ℕ) → MadeOf vs (bit_xor (v * 2 ^ width) left) → SumOf (kept vs) (bit_xor v (row_of left))
taken v left a = rw (xor_shr (v * 2 ^ width) left width ∙ ap (λ (x : ℕ). bit_xor x (row_of left)) (shl-shr v width)) at (made_sum a)

pub no_sum : {es vs : List ℕ} (v left : ℕ) → Echelon es vs → MadeOf vs (bit_xor (v * 2 ^ width) left) → row_of left ≢ 0
    → get_or es (count_leading_zeros width (row_of left)) 0 ≡ 0 → ¬ SumOf (kept vs) v
no_sum v left h a rest stuck s = h.complete (row_of left) (rw (xor_cancel v (row_of left)) at (sum_xor s (taken v left a))) rest stuck

-- v leaves a row, at a place without an entry
module _ {es vs : List ℕ} {v left own : ℕ} (fits : v < 2 ^ width) (wide : left < 2 ^ (width + width)) (h : Echelon es vs)
    (a : MadeOf vs (bit_xor (v * 2 ^ width) left)) (rest : row_of left ≢ 0) (stuck : get_or es (count_leading_zeros width (row_of left)) 0 ≡ 0)
    (room : length vs < width) (own_is : own ≡ 2 ^ length vs) where
  abbrev z : ℕ
  z = count_leading_zeros width (row_of left)

  abbrev new_at : ℕ → ℕ
  new_at y = get_or (set es z (bit_xor left own)) y 0

  own_short : own < 2 ^ width
  own_short = omega (arith, pow-lt {i = length vs} {j = width} room)

  rest_fits : row_of left < 2 ^ width
  rest_fits = omega arith

  new : ¬ SumOf (kept vs) v
  new = no_sum v left h a rest stuck

  pub kept_rest : IsKept (vs ++ (v ∷ [])) (length vs)
  kept_rest = (Is_kept_snoc vs v).1 new

  pub mask_new : own ≡ mask (vs ++ (v ∷ [])) (length vs)
  mask_new = own_is ∙ sym (mask_kept (vs ++ (v ∷ [])) (length vs) kept_rest)

  made_rest : MadeOf (vs ++ (v ∷ [])) (bit_xor left own)
  made_rest =
      let top : ℕ = v * 2 ^ width in
      let by_own : MadeOf (vs ++ (v ∷ [])) (bit_xor top own) = rw (xor_shifted v width own own_short, mask_new) (made_own vs v (rw mask_new at own_short)) in
      rw (xor_swap top left top own ∙ ap (λ (x : ℕ). bit_xor x (bit_xor left own)) (xor_self top)) at (made_xor (made_more vs v a) by_own)

  row_rest : row_of (bit_xor left own) ≡ row_of left
  row_rest = xor_shr left own width ∙ ap (bit_xor (row_of left)) (div-eq_of_lt own_short) ∙ xor_zero_r (row_of left)

  at_z : new_at z ≡ bit_xor left own
  at_z = get_or-set_same es z (bit_xor left own) 0 (omega (arith, leading_lt width (row_of left) rest_fits rest, h.places))

  at_other : (y : ℕ) → y ≢ z → new_at y ≡ get_or es y 0
  at_other y n = get_or-set_other es z y (bit_xor left own) 0 n

  leading_new : (y : ℕ) → new_at y ≢ 0 → count_leading_zeros width (row_of (new_at y)) ≡ y
  leading_new y there = elim (ℕ_discrete y z) [
    | yes e ↦ ap (λ (x : ℕ). count_leading_zeros width (row_of (new_at x))) e ∙ ap (λ (x : ℕ). count_leading_zeros width (row_of x)) at_z ∙ ap (count_leading_zeros width) row_rest ∙ sym e
    | no n ↦ rw (at_other y n) (h.leading y (λ e. there (at_other y n ∙ e)))
  ]

  sound_new : (y : ℕ) → new_at y ≢ 0 → MadeOf (vs ++ (v ∷ [])) (new_at y)
  sound_new y there = elim (ℕ_discrete y z) [
    | yes e ↦ rw (e, at_z) made_rest
    | no n ↦ rw (at_other y n) (made_more vs v (h.sound y (λ e. there (at_other y n ∙ e))))
  ]

  -- an entry is there at z, and where one was before
  there_new : (y : ℕ) → y ≡ z → new_at y ≢ 0
  there_new y e = rw (e, at_z) (λ none. rest (sym row_rest ∙ ap row_of none))

  there_old : (y : ℕ) → get_or es y 0 ≢ 0 → new_at y ≢ 0
  there_old y there = elim (ℕ_discrete y z) [ yes e ↦ there_new y e | no n ↦ rw (at_other y n) there ]

  -- w less the row that is left is a sum of those kept before: it is 0, or begins where another row does, above z or below
  complete_rest : (w : ℕ) → w ≢ 0 → SumOf (kept vs) (bit_xor (row_of left) w) → new_at (count_leading_zeros width w) ≢ 0
  complete_rest w n s = elim (ℕ_discrete (bit_xor r w) 0) [
    | yes e ↦ there_new (count_leading_zeros width w) (ap (count_leading_zeros width) (sym (xor_zero_eq r w e)))
    | no d ↦ beside (h.complete (bit_xor r w) s d)
  ]
    where
      r : ℕ
      r = row_of left

      u : ℕ
      u = bit_xor r w

      u_narrow : u < 2 ^ width
      u_narrow = rw s.sum at (image_lt width (kept vs) (kept_all_below (2 ^ width) vs h.narrow) s.selected)

      above : count_leading_zeros width u < z → count_leading_zeros width w ≡ count_leading_zeros width u
      above l = ap (count_leading_zeros width) (sym (xor_comm u r ∙ xor_cancel r w)) ∙ leading_xor width u r u_narrow rest_fits l

      below : z < count_leading_zeros width u → count_leading_zeros width w ≡ z
      below l = ap (count_leading_zeros width) (sym (xor_cancel r w)) ∙ leading_xor width r u rest_fits u_narrow l

      beside : get_or es (count_leading_zeros width u) 0 ≢ 0 → new_at (count_leading_zeros width w) ≢ 0
      beside there = elim (dec_lt (count_leading_zeros width u) z) [
        | yes l ↦ rw (above l) (there_old (count_leading_zeros width u) there)
        | no m ↦ let apart : count_leading_zeros width u ≢ z = λ e. there (ap (λ (y : ℕ). get_or es y 0) e ∙ stuck) in
            there_new (count_leading_zeros width w) (below (omega arith))
      ]

  complete_new : (w : ℕ) → SumOf (kept (vs ++ (v ∷ []))) w → w ≢ 0 → new_at (count_leading_zeros width w) ≢ 0
  complete_new w s n = go (sum_snoc (kept vs) v w (rw (kept_new vs v new) at s))
    where
      rest_for_v : bit_xor (bit_xor w v) (bit_xor v (row_of left)) ≡ bit_xor (row_of left) w
      rest_for_v = xor_assoc w v (bit_xor v (row_of left)) ∙ ap (bit_xor w) (xor_cancel v (row_of left)) ∙ xor_comm w (row_of left)

      go : SumOf (kept vs) w ⊎ SumOf (kept vs) (bit_xor w v) → new_at (count_leading_zeros width w) ≢ 0
      go (inl old) = there_old (count_leading_zeros width w) (h.complete w old n)
      go (inr less_v) = complete_rest w n (rw rest_for_v at (sum_xor less_v (taken v left a)))

  pub echelon_new : Echelon (set es z (bit_xor left own)) (vs ++ (v ∷ []))
  echelon_new = record {
    places = length-set es z (bit_xor left own) ∙ h.places;
    narrow = narrow_more vs v fits h.narrow;
    leading = leading_new;
    sound = sound_new;
    complete = complete_new;
  }
