-- There is room for each part after those before it.
use Rattle.std.proofs.Common.{[], ◌∷◌, ◌++◌, arith, length-append}
use Rattle.text.specs.Decimal.{codes, decimal}
use Rattle.text.proofs.DecimalLaws.{decimal_length}
use Rattle.lines.specs.Line.{line}
use Rattle.lines.proofs.WriteLaws.{writes_then}
use Rattle.list.proofs.ListLaws.{one_short, prints_by}
use Rattle.list.proofs.put_column.Goals as goal

pub returns : goal.returns
unfolding codes
returns c =
    let column = decimal c.args.column in
    let from = line (codes " from") (c.args.mask ∷ []) in
    let digits = decimal_length 10 c.args.column (omega arith) (omega arith) in
    let short = one_short (codes " from") c.args.mask (omega arith) in
    let begun = c.put_bytes-at.ensures.written (omega arith) in
    let numbered = c.put_number-end.ensures.written (omega (arith, digits, begun)) in
    prints_by
    (writes_then begun (writes_then numbered (c.put_line.ensures.written (omega (arith, short, digits, begun, numbered)))))
    (omega (arith, length-append (codes "refused 4 column ") (column ++ from), length-append column from, short, digits))
