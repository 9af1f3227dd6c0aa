-- Marks and words that are put in places.
--   put_in          where places are different, each has the number that was put in it
--   zero_marks      of zero marks none says filled
--   served_filled   a call that writes empty cells and reads filled ones adds as many filled marks as it writes, and takes away as many as it reads
use Prim.Native.Nat.{ℕ, zero, suc, ◌+◌, ◌*◌, ◌<◌}
use mathlib.Core.Path.{◌≡◌, refl, sym, ap, ◌∙◌}
use mathlib.Core.List.{List, [], ◌∷◌}
use mathlib.Core.Logic.{◌≢◌}
use native.Mathlib.Decide.{ℕ_discrete}
use native.Mathlib.Nat.{suc-mul}
use native.Mathlib.Omega.{arith}
use lib.ListN.{length, get_or, set, length-set}
use lib.Seq.{get_or-set_same, get_or-set_other}
use Rattle.kinds.proofs.TruthLaws.{stable}
use Rattle.bits.specs.Image.{AllBelow}
use Rattle.faults.specs.Marks.{put, with_marks}
use Rattle.faults.specs.Faults.{SomeFilled, SomeEmpty}
use Rattle.faults.proofs.MarkLaws.{put_length, put_other}
use Rattle.faults.proofs.FaultLaws.{Different}
use Rattle.memory.specs.Memory.{Memory, filled_marks, Access, served}

pub zero_marks : (l : List ℕ) → ((j : ℕ) → j < length l → get_or l j 0 ≡ 0) → filled_marks l ≡ 0
unfolding filled_marks
zero_marks [] zeros = refl
zero_marks (zero ∷ l) zeros = zero_marks l (λ j h. zeros (suc j) (omega arith))
zero_marks (suc v ∷ l) zeros = absurd (omega (arith, zeros 0 (omega arith)))

set_filled : (l : List ℕ) (x v : ℕ) → x < length l → filled_marks (set l x v) + filled_marks (get_or l x 0 ∷ []) ≡ filled_marks l + filled_marks (v ∷ [])
unfolding filled_marks
set_filled [] x v h = absurd (omega arith)
set_filled (zero ∷ l) zero zero h = refl
set_filled (zero ∷ l) zero (suc v) h = omega arith
set_filled (suc u ∷ l) zero zero h = omega arith
set_filled (suc u ∷ l) zero (suc v) h = refl
set_filled (zero ∷ l) (suc x) v h = set_filled l x v (omega arith)
set_filled (suc u ∷ l) (suc x) v h = omega (arith, set_filled l x v (omega arith))

pub put_in : (cs vs l : List ℕ) → Different cs → AllBelow (length l) cs → length vs ≡ length cs → (p : ℕ) → p < length cs
    → get_or (put cs vs l) (get_or cs p 0) 0 ≡ get_or vs p 0
unfolding put
put_in [] vs l different inside each p h = absurd (omega arith)
put_in (x ∷ cs) [] l different inside each p h = absurd (omega arith)
put_in (x ∷ cs) (v ∷ vs) l different inside each zero h =
    put_other cs vs (set l x v) x (λ p b same. different 0 (suc p) (omega arith) (omega arith) (sym same)) ∙ get_or-set_same l x v 0 (inside 0 (omega arith))
put_in (x ∷ cs) (v ∷ vs) l different inside each (suc p) h =
    put_in cs vs (set l x v) (λ i j b e. different (suc i) (suc j) (omega arith) (omega arith)) (λ i b. rw length-set (inside (suc i) (omega arith))) (omega arith) p
    (omega arith)

marks_changed : (u v : ℕ) (cs l : List ℕ) → Different cs → AllBelow (length l) cs
    → ((p : ℕ) → p < length cs → filled_marks (get_or l (get_or cs p 0) 0 ∷ []) ≡ u)
    → filled_marks (with_marks v cs l) + length cs * u ≡ filled_marks l + length cs * filled_marks (v ∷ [])
unfolding put
marks_changed u v [] l different inside old = omega arith
marks_changed u v (x ∷ cs) l different inside old =
    omega (
      arith,
      marks_changed u v cs (set l x v) (λ p q b h. different (suc p) (suc q) (omega arith) (omega arith)) (λ p h. rw length-set (inside (suc p) (omega arith))) still,
      set_filled l x v (inside 0 (omega arith)),
      old 0 (omega arith),
      suc-mul (length cs) u,
      suc-mul (length cs) (filled_marks (v ∷ [])),
    )
  where
    still : (p : ℕ) → p < length cs → filled_marks (get_or (set l x v) (get_or cs p 0) 0 ∷ []) ≡ u
    still p h = rw (get_or-set_other l x (get_or cs p 0) v 0 (λ e. different 0 (suc p) (omega arith) (omega arith) (sym e))) (old (suc p) (omega arith))

mark_of : (v : ℕ) → v ≢ 0 → filled_marks (v ∷ []) ≡ 1
unfolding filled_marks
mark_of zero h = absurd (h refl)
mark_of (suc v) h = refl

module _ (cs l : List ℕ) (different : Different cs) (inside : AllBelow (length l) cs) where
  marks_filled : ¬ SomeFilled l cs → filled_marks (with_marks 1 cs l) ≡ filled_marks l + length cs
  unfolding filled_marks
  marks_filled empty =
      omega (arith, marks_changed 0 1 cs l different inside (λ p h. rw (stable (ℕ_discrete (get_or l (get_or cs p 0) 0) 0) (λ filled. empty (p, h, filled)))))

  marks_emptied : ¬ SomeEmpty l cs → filled_marks (with_marks 0 cs l) + length cs ≡ filled_marks l
  unfolding filled_marks
  marks_emptied filled =
      omega (arith, marks_changed 1 0 cs l different inside (λ p h. mark_of (get_or l (get_or cs p 0) 0) (λ e. filled (p, h, λ f. f e))))

module _ (A : Access) (m : Memory) (writes_apart : Different A.writes) (reads_apart : Different A.reads)
    (writes_inside : AllBelow (length m.marks) A.writes) (reads_inside : AllBelow (length m.marks) A.reads) where
  pub served_filled : ¬ SomeFilled m.marks A.writes → ¬ SomeEmpty m.marks A.reads
      → filled_marks (served A m).marks + length A.reads ≡ filled_marks m.marks + length A.writes
  served_filled empty filled =
      omega (
        arith,
        marks_emptied A.reads m.marks reads_apart reads_inside filled,
        marks_filled A.writes (with_marks 0 A.reads m.marks) writes_apart (λ p h. rw put_length (writes_inside p h)) still_empty,
      )
    where
      -- a cell that is read is filled, so it is none of those that are written
      still_empty : ¬ SomeFilled (with_marks 0 A.reads m.marks) A.writes
      still_empty (p, h, f) = empty (
        p,
        h,
        λ e. f (put_other A.reads _ m.marks _ (λ q r same. filled (q, r, λ g. g (ap (λ (x : ℕ). get_or m.marks x 0) same ∙ e))) ∙ e),
      )
