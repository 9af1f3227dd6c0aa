-- The tool is lent a text of no places, and refuses it.
use Rattle.std.proofs.Common.{◌∷◌, [], length, refl, ap, ◌∙◌, arith}
use Rattle.kinds.specs.Lengths.{exactly}
use Rattle.kinds.specs.Refusal.{given}
use Rattle.list.proofs.ToolLaws.{no_text}
use Rattle.told.proofs.BesidesLaws.{answers_as_wrong}
use Rattle.board.proofs.board_list.Goals as goal

pub returns-then-said-ne3 : goal.returns-then-said-ne3
returns-then-said-ne3 c = λ d.
    let not = c.if-said-ne3.true in
    let (number, kept) = no_text c.list.result c.list.ensures (omega arith) d ((length c.args.said.now, exactly 3) ∷ []) (λ right. not right.0) in
    answers_as_wrong not (c.tell.ensures.number ∙ ap given number) (refl, kept) (c.tell.ensures.places.others not)
