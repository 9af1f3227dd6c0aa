-- The first j columns agree, whichever side is shown.
use Rattle.std.proofs.Common.{ℕ, ◌<◌, List}
use Rattle.sheet.specs.Sheet.{Side}
use Rattle.maps.specs.Opened.{Shows}
use Rattle.maps.specs.declared.OpenSide.{OpenSide}
use Rattle.inspect.specs.Inside.{AgreeAt}
use Rattle.inspect.proofs.agree.Given as goal

pub record Agreeing (k : ℕ) (C w : List ℕ) (o : OpenSide) (j : ℕ) : Type 0 where
  pub each : (m : ℕ) (R : Side) → Shows m k o R → (i : ℕ) → i < j → AgreeAt k C w R i

abbrev pub invariant-loop-j : goal.invariant-loop-j
invariant-loop-j l = Agreeing l.k l.columns l.cells l.read l.j
