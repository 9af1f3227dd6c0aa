-- Lists that are padded with zeros.
--   padded_length     a list that is padded to m has m numbers
--   padded_at         it shows the numbers of the list, and zeros after them
--   padded_unique     a list of m numbers that shows the numbers of another is that one, padded
--   padded_whole      a list of m numbers is padded already
--   padded_part       the part of a padded list that is used, as a part that starts at 0
--   padded_snoc       the first zero of a padded list, replaced, is one number more of the list
use Prim.Native.Nat.{ℕ, suc, ◌+◌, ◌-◌, ◌≤◌, ◌<◌}
use mathlib.Core.Path.{◌≡◌, refl, sym, ap, ◌∙◌}
use mathlib.Core.List.{List, [], ◌∷◌, ◌++◌, append_assoc}
use native.Mathlib.Decide.{dec_lt}
use native.Mathlib.Omega.{arith}
use lib.ListN.{length, get_or, set, take, replicate, length-append, length-replicate, get_or-append, get_or-eq_default}
use lib.Seq.{take_at, get_or-append-add, set-append_seam, ext_get_or}
use Rattle.bits.specs.Padded.{padded_to}
use Rattle.bits.proofs.ImageLaws.{zeros_at}

module _ (m : ℕ) (l : List ℕ) where
  abbrev zeros : List ℕ
  zeros = replicate (m - length l) 0

  pub padded_length : length l ≤ m → length (padded_to m l) ≡ m
  padded_length h = omega (arith, length-append l zeros, length-replicate {A = ℕ} (m - length l) 0)

  pub padded_at : (j : ℕ) → get_or (padded_to m l) j 0 ≡ get_or l j 0
  padded_at j = elim (dec_lt j (length l)) [
    | yes h ↦ get_or-append l zeros 0 j h
    | no h ↦
        ap (λ (x : ℕ). get_or (padded_to m l) x 0) {x = j} {y = length l + (j - length l)} (omega arith)
        ∙ get_or-append-add l zeros (j - length l) 0
        ∙ zeros_at (m - length l) (j - length l)
        ∙ sym (get_or-eq_default l 0 (omega arith))
  ]

  pub padded_unique : (r : List ℕ) → length l ≤ m → length r ≡ m → ((j : ℕ) → get_or r j 0 ≡ get_or l j 0) → r ≡ padded_to m l
  padded_unique r few whole same = ext_get_or 0 r (padded_to m l) (whole ∙ sym (padded_length few)) (λ j h. same j ∙ sym (padded_at j))

  pub padded_whole : length l ≡ m → padded_to m l ≡ l
  padded_whole whole = sym (padded_unique l (omega arith) whole (λ j. refl))

  pub padded_part : (i : ℕ) → i ≡ length l → take (i - 0) (padded_to m l) ≡ l
  padded_part i e = take_at l zeros (i - 0) (omega (arith, e))

  pub padded_snoc : (v : ℕ) → length l < m → set (padded_to m l) (length l) v ≡ padded_to m (l ++ (v ∷ []))
  padded_snoc v h =
      let after = m - length (l ++ (v ∷ [])) in
      let one_more : m - length l ≡ suc after = omega (arith, length-append l (v ∷ [])) in
      ap (λ (x : ℕ). set (l ++ replicate x 0) (length l) v) one_more
      ∙ set-append_seam l 0 (replicate after 0) v
      ∙ sym (append_assoc l (v ∷ []) (replicate after 0))
