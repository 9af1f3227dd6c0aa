-- It goes down the table of 2 and 11 to 14; past each test the reason does not apply.
use Rattle.std.proofs.Common.{ℕ, ◌≡◌, ◌≤◌, Bool, true, false, cond, List, [], ◌∷◌, length, Option, Some, None, refl, sym, ◌∙◌, arith}
use mathlib.Core.Option.{none, some}
use native.Mathlib.Decide.{dec_le}
use Rattle.kinds.specs.Answers.{if_holds}
use Rattle.kinds.specs.First.{Reason, first_of}
use Rattle.kinds.specs.declared.Port.{Port}
use Rattle.kinds.specs.declared.Refusal.{Refusal}
use Rattle.kinds.specs.declared.Refusal.TheVariants.{WriteClash, Overwrite, ReadClash, EmptyRead}
use Rattle.kinds.proofs.TruthLaws.{says_no, says_yes, denied}
use Rattle.kinds.proofs.FirstLaws.{first_nil, first_take, first_skip}
use Rattle.faults.specs.Marks.{with_marks}
use Rattle.faults.specs.Faults.{SomeMarked, judged_on, most_cells}
use Rattle.faults.specs.Table.{first_pair_of, clash, overwrite, empty_read, fault_table}
use Rattle.faults.proofs.MarkLaws.{put_nil}
use Rattle.faults.proofs.FaultLaws.{pair_clash, first_pair_named, pair_none, pair_some, pair_counted}
use Rattle.faults.proofs.first_fault.Goals as goal
use Rattle.faults.proofs.first_fault.Goals.{then-after, else-after}

clash_given : (F : Port → Port → Refusal) (k : ℕ) (cs : List ℕ) (rest : List Reason) {p q : Port} → first_pair_of k cs ≡ Some (p, q)
    → first_of (clash F k cs ∷ rest) ≡ some (F p q)
clash_given F k cs rest {p} {q} e =
    let pair = (pair_some k cs p q).0 e in
    let (first, second) = first_pair_named pair in
    first_take _ rest (pair_clash pair) ∙ rw (second, first)

-- the marks after those cells were emptied that were freed
judged : (after : Bool) (reads l : List ℕ) {freed : List ℕ} → freed ≡ cond after reads [] → with_marks 0 freed l ≡ judged_on after reads l
judged true reads l e = rw e
judged false reads l e = rw e (put_nil _ l)

-- what `first_pair` answers
abbrev counted : ℕ → List ℕ → Option (Port × Port)
counted k cs = if_holds (dec_le (length cs) most_cells) (first_pair_of k cs) None

module _ (after : Bool) (k : ℕ) (writes reads marks : List ℕ) (written_few : length writes ≤ most_cells) (read_few : length reads ≤ most_cells) where
  abbrev from14 : List Reason
  from14 = empty_read marks reads ∷ []

  abbrev from13 : List Reason
  from13 = clash ReadClash k reads ∷ from14

  abbrev from12 : List Reason
  from12 = overwrite (judged_on after reads marks) writes ∷ from13

  abbrev Left : List Reason → Type 0
  Left t = first_of (fault_table after k writes reads marks) ≡ first_of t

  past_2 : Left (clash WriteClash k writes ∷ from12)
  past_2 = first_skip _ _ (λ many. many (record { written = written_few; read = read_few }))

  stop_11 : {p q : Port} → Some (p, q) ≡ counted k writes → some (WriteClash p q) ≡ first_of (fault_table after k writes reads marks)
  stop_11 e = sym (past_2 ∙ clash_given WriteClash k writes _ (sym (e ∙ pair_counted k writes written_few)))

  -- 11 does not apply
  module _ (written : None ≡ counted k writes) {freed : List ℕ} (emptied : freed ≡ cond after reads []) where
    past_11 : Left from12
    past_11 = past_2 ∙ first_skip _ _ ((pair_none k writes).0 (sym (written ∙ pair_counted k writes written_few)))

    abbrev Overwrites : Type 0
    Overwrites = SomeMarked true (with_marks 0 freed marks) writes

    on : with_marks 0 freed marks ≡ judged_on after reads marks
    on = judged after reads marks emptied

    stop_12 : Overwrites → some Overwrite ≡ first_of (fault_table after k writes reads marks)
    stop_12 o = let (p, h, filled) = rw on at o in sym (past_11 ∙ first_take _ _ (p, h, filled.0 refl))

    -- nor does 12
    module _ (fresh : ¬ Overwrites) where
      past_12 : Left from13
      past_12 = past_11 ∙ first_skip _ _ (λ (p, h, filled). fresh (rw on (p, h, says_yes filled)))

      stop_13 : {p q : Port} → Some (p, q) ≡ counted k reads → some (ReadClash p q) ≡ first_of (fault_table after k writes reads marks)
      stop_13 e = sym (past_12 ∙ clash_given ReadClash k reads _ (sym (e ∙ pair_counted k reads read_few)))

      -- nor does 13
      module _ (read : None ≡ counted k reads) where
        past_13 : Left from14
        past_13 = past_12 ∙ first_skip _ _ ((pair_none k reads).0 (sym (read ∙ pair_counted k reads read_few)))

        abbrev Empties : Type 0
        Empties = SomeMarked false (with_marks 0 [] marks) reads

        stop_14 : Empties → some EmptyRead ≡ first_of (fault_table after k writes reads marks)
        stop_14 e = let (p, h, empty) = rw (put_nil [] marks) at e in sym (past_13 ∙ first_take _ _ (p, h, denied empty refl))

        past_14 : ¬ Empties → none ≡ first_of (fault_table after k writes reads marks)
        past_14 full = sym (past_13 ∙ first_skip _ _ (λ (p, h, empty). full (rw (put_nil [] marks) (p, h, says_no empty))) ∙ first_nil)

pub returns-then-writes-gt-CELLS : goal.returns-then-writes-gt-CELLS
returns-then-writes-gt-CELLS c = sym (first_take _ _ (λ few. omega (arith, few)))

pub returns-in-Some : goal.returns-in-Some
returns-in-Some c =
    let x = c.args in
    stop_11 x.after x.k x.writes.now x.reads.now x.marks.now c.if-writes-gt-CELLS.false c.if-reads-gt-CELLS.false c.in-Some.ensures

pub returns-then-some_cell : goal.returns-then-some_cell
returns-then-some_cell c =
    let x = c.args in
    stop_12 x.after x.k x.writes.now x.reads.now x.marks.now c.if-writes-gt-CELLS.false c.if-reads-gt-CELLS.false c.in_default.ensures
    (elim c.if-after.branch [ then-after w ↦ cc | else-after w ↦ cc ]) (c.some_cell.ensures.0 c.if-some_cell.true)

pub returns-in-Some-first_pair : goal.returns-in-Some-first_pair
returns-in-Some-first_pair c =
    let x = c.args in
    stop_13 x.after x.k x.writes.now x.reads.now x.marks.now c.if-writes-gt-CELLS.false c.if-reads-gt-CELLS.false c.in_default.ensures
    (elim c.if-after.branch [ then-after w ↦ cc | else-after w ↦ cc ]) (denied c.some_cell.ensures c.if-some_cell.false) c.in-Some-first_pair.ensures

pub returns-then-some_cell-2 : goal.returns-then-some_cell-2
returns-then-some_cell-2 c =
    let x = c.args in
    stop_14
    x.after x.k x.writes.now x.reads.now x.marks.now
    c.if-writes-gt-CELLS.false
    c.if-reads-gt-CELLS.false
    c.in_default.ensures
    (elim c.if-after.branch [ then-after w ↦ cc | else-after w ↦ cc ])
    (denied c.some_cell.ensures c.if-some_cell.false)
    c.in_default-first_pair.ensures
    (c.some_cell-2.ensures.0 c.if-some_cell-2.true)

pub returns : goal.returns
returns c =
    let x = c.args in
    past_14
    x.after x.k x.writes.now x.reads.now x.marks.now
    c.if-writes-gt-CELLS.false
    c.if-reads-gt-CELLS.false
    c.in_default.ensures
    (elim c.if-after.branch [ then-after w ↦ cc | else-after w ↦ cc ])
    (denied c.some_cell.ensures c.if-some_cell.false)
    c.in_default-first_pair.ensures
    (denied c.some_cell-2.ensures c.if-some_cell-2.false)
