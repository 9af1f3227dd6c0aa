-- The bytes from the i-th on are left to write, from the i-th place on.
use Rattle.std.proofs.Common.{◌+◌, drop}
use Rattle.lines.proofs.WriteLaws.{Left}
use Rattle.lines.proofs.put_bytes.Given as goal

abbrev pub invariant-loop-i : goal.invariant-loop-i
invariant-loop-i l = Left l.bytes l.at l.fn.text (drop l.i l.bytes) (l.at + l.i) l.text
