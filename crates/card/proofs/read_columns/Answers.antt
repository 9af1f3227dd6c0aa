use Rattle.std.proofs.Common.{List, ℕ, [], ◌∷◌, ◌≤◌, ◌<◌, ◌++◌, length, drop, sym, ◌∙◌, arith, length-append, drop-cons}
use mathlib.Core.List.{append-nil}
use mathlib.Core.Option.{some-injective}
use lib.ListN.{drop_of_length-le}
use lib.Seq.{append_snoc}
use Rattle.few.proofs.FewLaws.{with_room}
use Rattle.kinds.proofs.FirstLaws.{none_some}
use Rattle.text.specs.Numbers.{IsRow, Begins}
use Rattle.text.proofs.RowLaws.{row_step, row_none, row_rest, row_begins}
use Rattle.text.proofs.ToolLaws.{next_number, next_none}
use Rattle.card.proofs.CardLaws.{two_places}
use Rattle.card.proofs.read_columns.Invariants.{Taking}
use Rattle.card.proofs.read_columns.Goals as goal

module _ {b taken : List ℕ} {at place : ℕ} (t : Taking b at taken place) where
  more : {v next : ℕ} → next ≤ length b → Begins (drop place b) v (drop next b) → Taking b at (taken ++ (v ∷ [])) next
  more {v} {next} inside g = record {
    short = t.short;
    within = inside;
    passed = omega (arith, two_places b place next inside g, length-append taken (v ∷ []));
    on = λ ns r. rw (append_snoc taken v ns) (t.on (v ∷ ns) (row_step g r));
    back = λ ms r. let (ns, s) = t.back ms r in let (xs, rest, _) = row_rest g s in (xs, rest);
  }

  stop : place < length b → ((v : ℕ) (rest : List ℕ) → ¬ Begins (drop place b) v rest) → (C : List ℕ) → ¬ IsRow (drop at b) C
  stop h not C r =
      let (ns, s) = t.back C r in
      let here = drop-cons b place 0 h in
      let (v, rest, g) = row_begins (rw here at s) in
      not v rest (rw here g)

  done : length b ≤ place → IsRow (drop at b) taken
  done h = rw (append-nil taken) at (t.on [] (rw (drop_of_length-le b h) row_none))

pub returns-in_default : goal.returns-in_default
returns-in_default c = record {
  read = tt;
  unread = λ x e. (sym (some-injective _ _ e), stop c.loop-place.invariant c.loop-place-test.true (next_none c.in_default.ensures));
}

pub loop-place-preserved : goal.loop-place-preserved
loop-place-preserved c = let (_, inside, g) = next_number c.in-Ok.ensures in rw (c.add.ensures ∙ with_room 62 _ _ (omega (arith, c.loop-place.invariant.passed, c.loop-place.invariant.short, c.loop-place-test.true))) (more c.loop-place.invariant inside g)

pub returns : goal.returns
returns c = record { read = done c.loop-place.invariant c.loop-place-test.false; unread = λ x e. none_some e }
