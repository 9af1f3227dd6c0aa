-- A scan with no entry holds the empty list.
use Rattle.span.proofs.HeldLaws.{echelon_none}
use Rattle.span.proofs.Scan.new.Goals as goal

pub returns : goal.returns
returns c = record { echelon = echelon_none }
