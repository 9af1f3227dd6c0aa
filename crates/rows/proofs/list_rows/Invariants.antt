-- What is listed of the positions from a to i - 1 stands in the vector.
use Rattle.std.proofs.Common.{ℕ, ◌-◌, ◌≤◌, ◌≡◌, Bool, List, length}
use Rattle.span.specs.Scan.{units as units_at}
use Rattle.rows.specs.Listed.{kept_numbers}
use Rattle.rows.proofs.list_rows.Given as goal

pub record Listing (ms : List ℕ) (a : ℕ) (kept : Bool) (end : ℕ) (units : List ℕ) (i : ℕ) : Type 0 where
  pub to : i - a ≤ end - a
  pub few : length units ≤ i - a
  pub front : units ≡ units_at (kept_numbers ms a i kept)

abbrev pub invariant-loop-i : goal.invariant-loop-i
invariant-loop-i l = Listing l.masks l.a l.kept l.i-end l.units.items l.i
