-- One number more of a list that is scanned.
--   Stepped vs j es b m    after number j of vs the entries es hold the numbers up to it; b says whether it was kept, and m is its mask
--   step_old               a number of which only a mask is left is a sum of kept ones, and the entries stay
--   step_new               a row that is left becomes an entry
use Prim.Native.Nat.{ℕ, suc, ◌+◌, ◌*◌, ◌^◌, ◌≤◌, ◌<◌}
use mathlib.Core.Path.{◌≡◌, sym, ap, ap₂, ◌∙◌}
use mathlib.Core.Bool.{Bool, true, false}
use mathlib.Core.List.{List, [], ◌∷◌, ◌++◌}
use mathlib.Core.Logic.{◌↔◌}
use native.Mathlib.Numerals.{add-one}
use native.Mathlib.Omega.{arith}
use lib.Bits.{bit_xor, xor_shifted}
use lib.Count.{count_leading_zeros}
use lib.ListN.{length, get_or, set, take, drop, take-append-drop, length-take}
use lib.Seq.{take-suc, length-take-le}
use Rattle.kinds.specs.Answers.{Says}
use Rattle.kinds.proofs.TruthLaws.{says_no, says_yes}
use Rattle.span.specs.Scan.{mask}
use Rattle.span.specs.Held.{width, MadeOf, Echelon, Reduces}
use Rattle.span.proofs.ScanLaws.{Is_kept_prefix, IsKept}
use Rattle.span.proofs.MaskLaws.{mask_prefix}
use Rattle.span.proofs.HeldLaws.{row_high, row_left, echelon_old, not_kept, mask_old, echelon_new, kept_rest, mask_new, entry}

pub record Stepped (vs : List ℕ) (j : ℕ) (es : List ℕ) (b : Bool) (m : ℕ) : Type 0 where
  pub echelon : Echelon es (take (j + 1) vs)
  pub keeps : Says b (IsKept vs j)
  pub masked : m ≡ mask vs j

module _ (vs : List ℕ) (j : ℕ) (inside : j < length vs) where
  abbrev so_far : List ℕ
  so_far = take j vs

  abbrev v : ℕ
  v = get_or vs j 0

  joined : so_far ++ (v ∷ []) ≡ take (suc j) vs
  joined = sym (take-suc vs j 0 inside)

  here : length so_far ≡ j
  here = length-take-le j vs (omega arith)

  whole : take (suc j) vs ++ drop (suc j) vs ≡ vs
  whole = take-append-drop (suc j) vs

  reach : j < length (take (suc j) vs)
  reach = omega (arith, length-take (suc j) vs)

  prefix : IsKept (take (suc j) vs) j ↔ IsKept vs j
  prefix = let p = Is_kept_prefix (take (suc j) vs) (drop (suc j) vs) j reach in (λ k. rw whole at (p.1 k), λ k. p.0 (rw whole k))

  stepped : {es : List ℕ} {b : Bool} {m : ℕ} → Echelon es (so_far ++ (v ∷ [])) → Says b (IsKept (so_far ++ (v ∷ [])) (length so_far))
      → m ≡ mask (so_far ++ (v ∷ [])) (length so_far) → Stepped vs j es b m
  stepped echelon keeps masked = record {
    echelon = rw (add-one, take-suc vs j 0) echelon;
    keeps = (λ e. prefix.0 (rw (joined, here) at (keeps.0 e)), λ k. keeps.1 (rw (joined, here) (prefix.1 k)));
    masked = masked ∙ ap₂ mask joined here ∙ sym (mask_prefix (take (suc j) vs) (drop (suc j) vs) j reach) ∙ ap (λ (l : List ℕ). mask l j) whole;
  }

  module _ {es : List ℕ} {left : ℕ} (fits : v < 2 ^ width) (h : Echelon es so_far) (reduced : Reduces es (v * 2 ^ width) left) where
    pub step_old : left < 2 ^ width → Stepped vs j es false left
    step_old short =
        let made : MadeOf so_far (entry v left) = rw (xor_shifted v width left short) at (reduced.made so_far h) in
        stepped (echelon_old v short made fits h) (says_no (not_kept v short made)) (mask_old v short made)

    pub step_new : {own : ℕ} → left < 2 ^ (width + width) → 2 ^ width ≤ left → j < width → own ≡ 2 ^ j
        → Stepped vs j (set es (count_leading_zeros (width + width) left) (bit_xor left own)) true own
    step_new wide long room own_is =
        let made = reduced.made so_far h in
        let stuck = reduced.stuck so_far h (row_left long) in
        let free : length so_far < width = omega (arith, here) in
        let position = own_is ∙ ap (λ (n : ℕ). 2 ^ n) (sym here) in
        stepped (rw (row_high wide long) (echelon_new fits wide h made (row_left long) stuck free position))
        (says_yes (kept_rest fits wide h made (row_left long) stuck free position))
        (mask_new fits wide h made (row_left long) stuck free position)
