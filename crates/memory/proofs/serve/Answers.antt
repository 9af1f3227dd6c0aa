-- Nothing is changed before the first fault was looked for, and past it none applies.
use Rattle.std.proofs.Common.{ℕ, ◌≡◌, ◌≤◌, Bool, List, length, refl, ap, sym, ◌∙◌}
use mathlib.Core.Option.{Option}
use native.Mathlib.Decide.{dec_le, ℕ_discrete}
use Rattle.kinds.specs.Answers.{over_front, if_holds}
use Rattle.kinds.specs.First.{first_of}
use Rattle.kinds.specs.declared.Refusal.{Refusal}
use Rattle.kinds.proofs.TruthLaws.{holds_yes, denied}
use Rattle.kinds.proofs.FirstLaws.{first_take, first_skip}
use Rattle.kinds.proofs.AnswerLaws.{refused_by, done_by}
use Rattle.faults.specs.Marks.{put, with_marks}
use Rattle.faults.specs.Table.{fault_table}
use Rattle.memory.specs.Memory.{Memory, Access, words_at, served, Fitting}
use Rattle.memory.specs.Serving.{serve_table}
use Rattle.std.proofs.lemmas.Result.{err_from_is_err_and}
use Rattle.memory.proofs.MemoryLaws.{same_memory}
use Rattle.memory.proofs.serve.Goals as goal

module _ (A : Access) (m : Memory) (out : List ℕ) (fit : Fitting (length A.writes) (length A.words) (length A.reads) (length out)) where
  past_2 : (after : Bool) (k : ℕ) {o : Option Refusal} → o ≡ first_of (fault_table after k A.writes A.reads m.marks) → first_of (serve_table after k A m out) ≡ o
  past_2 after k e = first_skip _ _ (λ wrong. wrong fit) ∙ sym e

  abbrev room : Dec (length A.reads ≤ length out)
  room = dec_le (length A.reads) (length out)

  abbrev each : Dec (length A.words ≡ length A.writes)
  each = ℕ_discrete (length A.words) (length A.writes)

  both_done : {out' marks₁ words' marks' : List ℕ} → out' ≡ if_holds room (over_front (words_at A.reads m.words) out) out
      → marks₁ ≡ if_holds room (with_marks 0 A.reads m.marks) m.marks → words' ≡ if_holds each (put A.writes A.words m.words) m.words
      → marks' ≡ if_holds each (with_marks 1 A.writes marks₁) marks₁
      → (◌≡◌ {A = Memory} (record { words = words'; marks = marks' }) (served A m)) × (out' ≡ over_front (words_at A.reads m.words) out)
  both_done o e w f = (
    same_memory (w ∙ holds_yes each _ _ fit.a_word_each)
        (f ∙ holds_yes each _ _ fit.a_word_each ∙ ap (with_marks 1 A.writes) (e ∙ holds_yes room _ _ fit.room)),
    o ∙ holds_yes room _ _ fit.room,
  )

pub returns-then-not-fitting : goal.returns-then-not-fitting
returns-then-not-fitting c = refused_by (first_take _ _ (denied c.fitting.ensures c.if-not-fitting.true)) (refl, refl)

pub returns-in_err-first_fault : goal.returns-in_err-first_fault
returns-in_err-first_fault c =
    let x = c.args in
    let A : Access = record { writes = x.writes.now; words = x.came.now; reads = x.reads.now } in
    let m : Memory = record { words = x.words.now; marks = x.marks.now } in
    let p = err_from_is_err_and c.from_residual.result c.from_residual.ensures.1 in
    rw (p.1, p.2) (refused_by (past_2 A m x.out.now (c.fitting.ensures.0 c.if-not-fitting.false) x.after x.k c.in_err-first_fault.ensures) (refl, refl))

pub returns : goal.returns
returns c =
    let x = c.args in
    let A : Access = record { writes = x.writes.now; words = x.came.now; reads = x.reads.now } in
    let m : Memory = record { words = x.words.now; marks = x.marks.now } in
    let fit = c.fitting.ensures.0 c.if-not-fitting.false in
    let taken = c.take_out.ensures in
    let stored = c.store.ensures in
    done_by
    (past_2 A m x.out.now fit x.after x.k c.in_ok-first_fault.ensures)
    (both_done A m x.out.now fit taken.out_after taken.marks_after stored.words_after stored.marks_after)
