use Rattle.std.proofs.Common.{take, arith, length-take}
use Rattle.span.specs.Scan.{masks}
use Rattle.span.proofs.MaskLaws.{masks_length}
use Rattle.bits.proofs.PaddedLaws.{padded_unique}
use Rattle.bits.specs.Padded.{array_width}
use Rattle.rows.proofs.masks_of.Goals as goal

pub returns : goal.returns
returns c =
    let scans = c.scan_all.ensures in
    let taken = take array_width c.args.numbers.now in
    padded_unique array_width (masks taken) c.scan_all.result.masks (omega (arith, masks_length taken, length-take array_width c.args.numbers.now))
    scans.places scans.masked
