use Rattle.std.proofs.Common.{ℕ, suc, ◌+◌, ◌≡◌, ◌/◌, ◌%◌, ◌<◌, List, length, get_or, drop, bit_xor, sym, ◌∙◌, add-one, arith, drop-cons, drop_of_length-le}
use lib.Bits.{xor_zero_r}
use Rattle.bits.specs.Image.{chosen, image}
use Rattle.bits.proofs.XorLaws.{xor_assoc}
use Rattle.bits.proofs.ImageLaws.{image_nil, image_cons}
use Rattle.bits.proofs.image.Goals as goal
use Rattle.bits.proofs.image.Goals.{then-above-eq1, else-above-eq1}

more : (columns : List ℕ) (sum above j next : ℕ) → j < length columns → next ≡ bit_xor sum (chosen (above % 2) (get_or columns j 0))
    → bit_xor sum (image (drop j columns) above) ≡ bit_xor next (image (drop (j + 1) columns) (above / 2))
more columns sum above j next h e =
    let c = get_or columns j 0 in
    let rest = drop (suc j) columns in
    rw (drop-cons columns j 0, image_cons c rest, add-one, e) (sym (xor_assoc sum (chosen (above % 2) c) (image rest (above / 2))))

pub loop-column-preserved : goal.loop-column-preserved
loop-column-preserved c =
    let columns = c.args.columns.now in
    let here = c.loop-column in
    let sum = here.sum in
    let above = here.above in
    let next = c.if-above-eq1.sum in
    let column = get_or columns here.column-index 0 in
    let chose : next ≡ bit_xor sum (chosen (above % 2) column) = elim c.if-above-eq1.branch [
      | then-above-eq1 w ↦ rw w.if-above-eq1.true w.sum-is
      | else-above-eq1 w ↦ let z : above % 2 ≡ 0 = omega arith in rw (z, xor_zero_r) w.sum-is
    ] in
    here.invariant ∙ more columns sum above here.column-index next (omega arith) chose

pub returns : goal.returns
returns c =
    let here = c.loop-column in
    sym (here.invariant ∙ rw (drop_of_length-le c.args.columns.now c.loop-column-test.false, image_nil, xor_zero_r))
