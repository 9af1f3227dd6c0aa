-- Where the whole line has room, the name has, and after it the numbers.
use Rattle.std.proofs.Common.{refl, arith, length-append}
use Rattle.lines.specs.Line.{line_end}
use Rattle.lines.proofs.WriteLaws.{puts_yes, writes_then}
use Rattle.lines.proofs.put_line.Goals as goal

pub returns : goal.returns
returns c =
    let room = c.if-not-line_fits.ensures.0 refl in
    let named = c.put_bytes-end.ensures.written (omega arith) in
    puts_yes (omega (arith, length-append c.args.name.now (line_end c.args.numbers.now))) (writes_then named c.put_numbers.ensures)
