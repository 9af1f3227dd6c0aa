-- Rows after others. Z lists the numbers on which all rows of R vanish.
--   taken_unit      rows taken on the numbers Z make of 2^l what they make of number l of Z
--   taken_kept      of rows S after R the scan keeps those that it keeps of S taken only on Z
--   taken_rank      so the rank of both together is that of R and that of S taken only on Z
use Prim.Native.Nat.{ℕ, zero, suc, ◌+◌, ◌^◌, ◌≤◌, ◌<◌}
use mathlib.Core.Path.{◌≡◌, refl, ap, ◌∙◌, sym}
use mathlib.Core.List.{List, [], ◌∷◌, ◌++◌, map}
use mathlib.Core.Logic.{⊎_elim, ◌↔◌}
use native.Mathlib.Nat.{add-zero, add-suc}
use native.Mathlib.Omega.{arith}
use lib.Bits.{bit_xor, xor_self, xor_lt}
use lib.ListN.{length, get_or, take, length-append, length-take, length-map}
use lib.Seq.{take-append-add, get_or-append-add, get_or-take}
use Rattle.bits.specs.Image.{image, AllBelow}
use Rattle.bits.specs.Parity.{dot}
use Rattle.bits.proofs.XorLaws.{xor_cancel_right}
use Rattle.bits.proofs.ParityLaws.{dot_comm, dot_unit}
use Rattle.bits.proofs.ImageLaws.{image_lt, linear_map}
use Rattle.span.specs.Sums.{SumOf}
use Rattle.span.specs.Scan.{kept_at, rank}
use Rattle.span.specs.Rows.{dots, taken_on}
use Rattle.span.proofs.SumLaws.{sum_image, sum_member, sum_xor, sum_left, sum_right, sum_map, sum_append}
use Rattle.span.proofs.ScanLaws.{map_at, kept_or_sum, kept_at_old, kept_at_new, kept_at_prefix, span_earlier, SumBefore, IsKept}
use Rattle.span.proofs.RankLaws.{rank_positions}
use Rattle.span.proofs.RowLaws.{dots_xor, dots_none, dots_nil, dots_cons, dots_bit}
use Rattle.span.proofs.DualLaws.{vanish_sum}
use Rattle.span.proofs.RowRankLaws.{functional_rows}

pub taken_unit : (Z S : List ℕ) (l : ℕ) → l < length Z → dots (taken_on Z S) (2 ^ l) ≡ dots S (get_or Z l 0)
taken_unit Z [] l h = dots_nil (2 ^ l) ∙ sym (dots_nil (get_or Z l 0))
taken_unit Z (s ∷ S) l h =
    let row : dot (dots Z s) (2 ^ l) ≡ dot s (get_or Z l 0) = dot_unit l (dots Z s) ∙ dots_bit Z s l h ∙ dot_comm (get_or Z l 0) s in
    simp dots_cons (rw (row, taken_unit Z S l h))

take_map : (f : ℕ → ℕ) (j : ℕ) (vs : List ℕ) → take j (map f vs) ≡ map f (take j vs)
take_map f zero vs = refl
take_map f (suc j) [] = refl
take_map f (suc j) (v ∷ vs) = ap (λ (l : List ℕ). f v ∷ l) (take_map f j vs)

before_earlier : (vs : List ℕ) (i : ℕ) {cs : List ℕ} {v : ℕ} → i ≤ length vs → take i vs ≡ cs → get_or vs i 0 ≡ v → SumBefore vs i ↔ SumOf cs v
before_earlier vs i h before here =
    let same = span_earlier vs i (get_or vs i 0) h in (λ s. rw (before, here) at (same.1 s), λ s. same.0 (rw (before, here) s))

module _ (k : ℕ) (R S Z : List ℕ) (R_below : AllBelow (2 ^ k) R) (S_below : AllBelow (2 ^ k) S)
    (vanish : (l : ℕ) → l < length Z → dots R (get_or Z l 0) ≡ 0)
    (all : (x : ℕ) → x < 2 ^ k → dots R x ≡ 0 → (l : ℕ) × (l < length Z) × (get_or Z l 0 ≡ x)) where
  -- the sums of R are the numbers that vanish on Z
  sum_vanishes : {w : ℕ} → SumOf R w → dots Z w ≡ 0
  sum_vanishes {w} s = dots_none Z w (λ l h. dot_comm (get_or Z l 0) w ∙ vanish_sum R (get_or Z l 0) (vanish l h) s)

  vanishing_sum : {w : ℕ} → w < 2 ^ k → dots Z w ≡ 0 → SumOf R w
  vanishing_sum {w} h e =
      functional_rows k R R_below w h
      (λ x l none. let (at, _, is) = all x l none in dot_comm w x ∙ rw (← is) (vanish_sum Z w e (sum_member Z at)))

  sum_taken : (T : List ℕ) {v : ℕ} → SumOf (R ++ T) v → SumOf (taken_on Z T) (dots Z v)
  sum_taken T s =
      let (w, u, before, after, e) = sum_append R T s in
      rw (← e, dots_xor Z w u, sum_vanishes before) (sum_map (dots Z) (dots_xor Z) after)

  taken_sum : (T : List ℕ) → AllBelow (2 ^ k) T → {v : ℕ} → v < 2 ^ k → SumOf (taken_on Z T) (dots Z v) → SumOf (R ++ T) v
  taken_sum T below {v} h s =
      let u : ℕ = image T s.selected in
      let same : dots Z u ≡ dots Z v = linear_map (dots Z) (dots_xor Z) T s.selected ∙ s.sum in
      let none : dots Z (bit_xor v u) ≡ 0 = dots_xor Z v u ∙ rw same (xor_self (dots Z v)) in
      rw (xor_cancel_right v u) at
      (sum_xor (sum_left T (vanishing_sum (xor_lt k v u h (image_lt k T below s.selected)) none)) (sum_right R (sum_image T s.selected)))

  -- the same, in the scan
  taken_before : (j : ℕ) → j < length S → SumBefore (R ++ S) (length R + j) ↔ SumBefore (taken_on Z S) j
  taken_before j h = (
    λ s. second.1 (sum_taken (take j S) (first.0 s)),
    λ s. first.1 (taken_sum (take j S) below (S_below j h) (second.0 s)),
  )
    where
      first : SumBefore (R ++ S) (length R + j) ↔ SumOf (R ++ take j S) (get_or S j 0)
      first = before_earlier (R ++ S) (length R + j) (omega (arith, length-append R S)) (take-append-add R S j) (get_or-append-add R S j 0)

      second : SumBefore (taken_on Z S) j ↔ SumOf (taken_on Z (take j S)) (dots Z (get_or S j 0))
      second = before_earlier (taken_on Z S) j (omega (arith, length-map S (dots Z))) (take_map (dots Z) j S) (map_at (dots Z) S j h)

      below : AllBelow (2 ^ k) (take j S)
      below l m = let n : (l < j) × (l < length S) = omega (arith, length-take j S) in rw (get_or-take j S l 0 n.0) (S_below l n.1)

  pub taken_kept : (j : ℕ) → j < length S → IsKept (R ++ S) (length R + j) ↔ IsKept (taken_on Z S) j
  taken_kept j h = (λ kept s. kept ((taken_before j h).1 s), λ kept s. kept ((taken_before j h).0 s))

  count : (j : ℕ) → j ≤ length S → length (kept_at (R ++ S) (length R + j)) ≡ rank R + length (kept_at (taken_on Z S) j)
  unfolding kept_at
  count zero h = rw (add-zero (length R), kept_at_prefix R S (length R) (omega arith)) (omega (arith, rank_positions R))
  count (suc j) h = rw (add-suc (length R) j) (⊎_elim
      (λ new.
      rw (kept_at_new (R ++ S) (length R + j) ((taken_kept j h).1 new), kept_at_new (taken_on Z S) j new)
      (simp length-append (omega (arith, count j (omega arith)))))
      (λ old. rw (kept_at_old (R ++ S) (length R + j) ((taken_before j h).1 old), kept_at_old (taken_on Z S) j old) (count j (omega arith)))
      (kept_or_sum (taken_on Z S) j))

  pub taken_rank : rank (R ++ S) ≡ rank R + rank (taken_on Z S)
  taken_rank =
      rank_positions (R ++ S)
      ∙ rw (length-append R S, rank_positions (taken_on Z S), length-map S (dots Z)) (count (length S) (omega arith))
