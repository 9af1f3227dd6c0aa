use Rattle.std.proofs.Common.{refl, arith}
use Rattle.std.proofs.lemmas.Result.{err_from_is_err_and}
use Rattle.text.proofs.RowLaws.{row_step}
use Rattle.text.proofs.ToolLaws.{next_number, next_none}
use Rattle.card.proofs.CardLaws.{two_places, card_first, card_second, card_others, reads_card, reads_none}
use Rattle.card.proofs.read.Goals as goal

pub returns-then-card-gt-LONGEST : goal.returns-then-card-gt-LONGEST
returns-then-card-gt-LONGEST c = reads_none (λ (ns, is). omega (arith, is.short))

pub returns-in_default : goal.returns-in_default
returns-in_default c = reads_none (λ (ns, is). let (v, rest, g) = card_first is in next_none c.in_default.ensures v rest g)

pub returns-in_default-next : goal.returns-in_default-next
returns-in_default-next c =
    let (_, _, first) = next_number c.in-Ok.ensures in
    reads_none (λ (ns, is). let (v, rest, g) = card_second first is in next_none c.in_default-next.ensures v rest g)

pub read_columns-requires : goal.read_columns-requires
read_columns-requires c =
    let (_, inside, first) = next_number c.in-Ok.ensures in
    let (_, within, second) = next_number c.in-Ok-next.ensures in
    let a = two_places c.args.card.now 0 c.in-Ok.n.end inside first in
    let b = two_places c.args.card.now c.in-Ok.n.end c.in-Ok-next.k.end within second in
    record { short = omega arith; two = omega arith; within = within }

pub returns-in_err-columns : goal.returns-in_err-columns
returns-in_err-columns c =
    let (_, _, first) = next_number c.in-Ok.ensures in
    let (_, _, second) = next_number c.in-Ok-next.ensures in
    let p = err_from_is_err_and c.from_residual.result c.from_residual.ensures.1 in
    let (is_card, no_row) = c.in_err-columns.ensures.unread _ refl in
    rw (p.1, p.2, is_card) (reads_none (λ (ns, is). let (C, r) = card_others first second is in no_row C r))

pub returns : goal.returns
returns c =
    let (_, _, first) = next_number c.in-Ok.ensures in
    let (_, _, second) = next_number c.in-Ok-next.ensures in
    rw (c.from.ensures, c.from-2.ensures)
    (reads_card (record { short = omega arith; numbers = row_step first (row_step second c.in_ok-columns.ensures.read); enough = omega arith }))
