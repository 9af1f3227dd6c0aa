-- The sizes of an edition of the sheet (01, 'Orders, ticks and ports' and 'What a sheet holds').
--   Edition        greatest n and k, most stages of a side, and places left over at a side's end
--   edition1       01's sizes
--   side_places e   places of one side: an address column for each bit of n, a wiring column for each of k, the count, two for a stage, those left over
--   sheet_places e  places of a sheet: the write side, then the read side
--   SizedN e n     n is within the sizes
--   Sized e n k    n and k are
use Rattle.std.specs.Prelude.{ℕ, ◌+◌, ◌*◌, ◌≤◌, min}

pub record Edition : Type 0 where
  pub most_n : ℕ
  pub most_k : ℕ
  pub most_stages : ℕ
  pub left_over : ℕ

abbrev pub edition1 : Edition
edition1 = record { most_n = 10; most_k = 5; most_stages = 8; left_over = 0 }

abbrev pub side_places : Edition → ℕ
side_places e = e.most_n + e.most_k + 1 + 2 * e.most_stages + e.left_over

abbrev pub sheet_places : Edition → ℕ
sheet_places e = 2 * side_places e

pub record SizedN (e : Edition) (n : ℕ) : Type 0 where
  pub least : 1 ≤ n
  pub most : n ≤ e.most_n

pub record Sized (e : Edition) (n k : ℕ) : Type 0 where
  pub frame : SizedN e n
  pub least : 1 ≤ k
  pub most : k ≤ min n e.most_k
