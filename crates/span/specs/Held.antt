-- How a scan in hand holds what it has taken. Nothing above this crate needs more of it than the name `Holds`.
--   width                 how many bits a scanned number has, and a mask
--   row_of e, mask_of e     the number and the mask of an entry, which holds both: number * 2^width + mask
--   MadeOf vs e           the mask of e, over kept positions of vs, selects a sum of the row of e
--   Echelon es vs         es[z] is an entry made of vs whose row has z leading zeros, or 0 where there is none
--   Holds scan vs         the scan has taken the numbers vs, each of at most `width` bits, in that order
--   Reduces es e left     left is e less entries of es, none of which has a row with as many leading zeros as that of left
use Rattle.std.specs.Prelude.{ℕ, ◌/◌, ◌%◌, ◌^◌, ◌≡◌, List, ◌≢◌, length, get_or}
use Rattle.std.specs.Int.Bits.{bit_xor}
use Rattle.std.specs.Int.Count.{count_leading_zeros}
use Rattle.bits.specs.Image.{image, AllBelow}
use Rattle.span.specs.Sums.{SumOf}
use Rattle.span.specs.Scan.{kept_at, kept, units}
use Rattle.span.specs.declared.Scan.{Scan}

abbrev pub width : ℕ
width = 16

abbrev pub row_of : ℕ → ℕ
row_of e = e / 2 ^ width

abbrev pub mask_of : ℕ → ℕ
mask_of e = e % 2 ^ width

pub record MadeOf (vs : List ℕ) (e : ℕ) : Type 0 where
  pub over_kept : SumOf (units (kept_at vs (length vs))) (mask_of e)
  pub sum : image vs (mask_of e) ≡ row_of e

pub record Echelon (es vs : List ℕ) : Type 0 where
  pub places : length es ≡ width
  pub narrow : AllBelow (2 ^ width) vs
  pub leading : (z : ℕ) → get_or es z 0 ≢ 0 → count_leading_zeros width (row_of (get_or es z 0)) ≡ z
  pub sound : (z : ℕ) → get_or es z 0 ≢ 0 → MadeOf vs (get_or es z 0)
  pub complete : (w : ℕ) → SumOf (kept vs) w → w ≢ 0 → get_or es (count_leading_zeros width w) 0 ≢ 0

pub record Holds (scan : Scan) (vs : List ℕ) : Type 0 where
  pub echelon : Echelon scan.entries vs

pub record Reduces (es : List ℕ) (e left : ℕ) : Type 0 where
  pub made : (vs : List ℕ) → Echelon es vs → MadeOf vs (bit_xor e left)
  pub stuck : (vs : List ℕ) → Echelon es vs → row_of left ≢ 0 → get_or es (count_leading_zeros width (row_of left)) 0 ≡ 0
