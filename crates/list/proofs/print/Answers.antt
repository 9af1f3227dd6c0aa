use Rattle.std.proofs.Common.{List, ℕ, [], ◌∷◌, ◌≡◌, length, get_or, refl, sym, ap, ◌∙◌, arith}
use mathlib.Core.Option.{Option}
use Rattle.kinds.specs.Answers.{Answers, over_front}
use Rattle.kinds.specs.Edition.{edition1}
use Rattle.kinds.specs.First.{first_of}
use Rattle.kinds.specs.declared.Refusal.{Refusal}
use Rattle.card.specs.Card.{Readable, card_table}
use Rattle.listed.specs.Tool.{text_places}
use Rattle.list.specs.Tool.{list_lengths, text_for}
use Rattle.list.proofs.ListLaws.{lengths_right}
use Rattle.list.proofs.print.Goals as goal

-- the text has its places, and there is one for the length
said_by_law : {b : List ℕ} (t : List ℕ) {o : Option Refusal} {D K : Type 0} (d : Dec (Readable b)) → length t ≡ text_places
    → Answers (card_table edition1 d (list_lengths t (0 ∷ []))) o D K → first_of (card_table edition1 d []) ≡ o
said_by_law t d whole answers = sym (lengths_right d (list_lengths t (0 ∷ [])) (omega (arith, whole), (refl, tt))) ∙ sym answers.is_first

pub returns-in-Ok : goal.returns-in-Ok
returns-in-Ok c d =
    let (text, size) = (c.in-Ok.ensures d).done refl in
    let none = sym (said_by_law c.args.text.now d (omega arith) (c.in-Ok.ensures d)) in
    record {
      length_of = ap (λ (l : List ℕ). get_or l 0 0) size ∙ ap (λ (o : Option Refusal). length (text_for o d)) none;
      text = text ∙ ap (λ (o : Option Refusal). over_front (text_for o d) c.args.text.now) none;
    }

pub returns-in-Err : goal.returns-in-Err
returns-in-Err c d =
    let kept = ((c.in-Err.ensures d).refused _ refl).0 in
    rw (said_by_law c.args.text.now d (omega arith) (c.in-Err.ensures d)) (rw kept at c.put_refusal.ensures)
