-- What the functions inside the crate promise one another.
--   tick_lines k l           a line for each tick of the frame l
--   counted_stages l         the count that stands first in l, and as many stages after it: "stage count, then each direction and control"
--   Counted l               l is the places of a side from its count on
--   Frames k l              the frame l has whole ticks, and is no longer than the longest
--   write_count_of s, read_count_of s     the places of either side of the sheet s from its count on
--   Tried k s f             a sheet and a frame that can be listed
--   trial_text n k s f       what is listed of the sheet s and the frame f that came out of it
use Rattle.std.specs.Prelude.{ℕ, ◌+◌, ◌-◌, ◌*◌, ◌/◌, ◌^◌, ◌≤◌, ◌≡◌, length, get_or, take, drop}
use mathlib.Core.List.{List, [], ◌∷◌, ◌++◌, flatten}
use Rattle.kinds.specs.Edition.{edition1, sheet_places}
use Rattle.kinds.specs.Frame.{in_order}
use Rattle.text.specs.Decimal.{codes}
use Rattle.lines.specs.Line.{line}
use Rattle.listed.specs.Listing.{tick_line}

abbrev pub tick_lines : ℕ → List ℕ → List ℕ
tick_lines k l = flatten (in_order (length l / 2 ^ k) (tick_line k l))

abbrev pub counted_stages : List ℕ → List ℕ
counted_stages l = take (1 + 2 * get_or l 0 0) l

pub record Counted (l : List ℕ) : Type 0 where
  pub places : length l ≡ 1 + 2 * edition1.most_stages
  pub stages : get_or l 0 0 ≤ edition1.most_stages

pub record Frames (k : ℕ) (l : List ℕ) : Type 0 where
  pub ports : k ≤ edition1.most_k
  pub words : length l ≤ 2 ^ edition1.most_n
  pub whole : length l / 2 ^ k * 2 ^ k ≡ length l

abbrev pub write_count_of : List ℕ → List ℕ
write_count_of s = take 17 (drop 15 s)

abbrev pub read_count_of : List ℕ → List ℕ
read_count_of s = take (length s - 47) (drop 47 s)

pub record Tried (k : ℕ) (s f : List ℕ) : Type 0 where
  pub places : length s ≡ sheet_places edition1
  pub write : Counted (write_count_of s)
  pub read : Counted (read_count_of s)
  pub frame : Frames k f

abbrev pub trial_text : ℕ → ℕ → List ℕ → List ℕ → List ℕ
trial_text n k s f =
    line (codes "order") (n ∷ k ∷ []) ++ (line (codes "write") (counted_stages (write_count_of s)) ++ (line (codes "read") (counted_stages (read_count_of s)) ++ tick_lines k f))
