use Rattle.std.proofs.Common.{min, take, sym, ◌∙◌, arith}
use Rattle.span.proofs.RowLaws.{rows_length, rows_row}
use Rattle.bits.proofs.FillLaws.{fill_none, fill_more, fill_all}
use Rattle.bits.specs.Padded.{array_width}
use Rattle.rows.proofs.rows_of.Goals as goal

pub loop-i-init : goal.loop-i-init
loop-i-init c = fill_none (omega (arith, rows_length (min c.args.count array_width) (take array_width c.args.columns.now)))

pub loop-i-preserved : goal.loop-i-preserved
loop-i-preserved c =
    let count = min c.args.count array_width in
    let columns = take array_width c.args.columns.now in
    fill_more c.loop-i.invariant (omega (arith, rows_length count columns)) (c.row.ensures ∙ sym (rows_row count columns c.loop-i.i (omega arith)))

pub returns : goal.returns
returns c = fill_all c.loop-i.invariant (omega (arith, rows_length (min c.args.count array_width) (take array_width c.args.columns.now)))
