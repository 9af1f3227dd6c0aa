-- Numbers that go to places of a list.
--   put_nil         where there are no places nothing is put
--   put_cons        a first number goes to a first place, and then the rest
--   put_length      no place is gained or lost
--   put_other       a place that nothing was put in keeps its content
--   zero_stays      emptying cells fills none
--   marked_zero     a cell that was emptied is empty, also beyond the memory
use Prim.Native.Nat.{ℕ, zero, suc, ◌<◌}
use mathlib.Core.Path.{◌≡◌, refl, sym, ◌∙◌}
use mathlib.Core.List.{List, [], ◌∷◌}
use mathlib.Core.Logic.{◌≢◌}
use native.Mathlib.Decide.{ℕ_discrete, dec_lt}
use native.Mathlib.Omega.{arith}
use lib.ListN.{length, get_or, set, length-set, get_or-eq_default}
use lib.Seq.{get_or-set_same, get_or-set_other}
use Rattle.faults.specs.Marks.{put, with_marks}

pub put_nil : (vs l : List ℕ) → put [] vs l ≡ l
unfolding put
put_nil vs l = refl

pub put_cons : (x v : ℕ) (cs vs l : List ℕ) → put (x ∷ cs) (v ∷ vs) l ≡ put cs vs (set l x v)
unfolding put
put_cons x v cs vs l = refl

pub put_length : (cs vs l : List ℕ) → length (put cs vs l) ≡ length l
unfolding put
put_length [] vs l = refl
put_length (x ∷ cs) [] l = refl
put_length (x ∷ cs) (v ∷ vs) l = put_length cs vs (set l x v) ∙ length-set l x v

pub put_other : (cs vs l : List ℕ) (y : ℕ) → ((p : ℕ) → p < length cs → get_or cs p 0 ≢ y) → get_or (put cs vs l) y 0 ≡ get_or l y 0
unfolding put
put_other [] vs l y other = refl
put_other (x ∷ cs) [] l y other = refl
put_other (x ∷ cs) (v ∷ vs) l y other =
    put_other cs vs (set l x v) y (λ p h. other (suc p) (omega arith)) ∙ get_or-set_other l x y v 0 (λ e. other 0 (omega arith) (sym e))

set_zero : (l : List ℕ) (x y : ℕ) → (y ≢ x → get_or l y 0 ≡ 0) → get_or (set l x 0) y 0 ≡ 0
set_zero l x y other = elim (ℕ_discrete y x) [
  | yes same ↦ elim (dec_lt y (length l)) [
    | yes inside ↦ rw (← same) (get_or-set_same l y 0 0 inside)
    | no beyond ↦ get_or-eq_default (set l x 0) 0 (rw length-set (omega arith))
  ]
  | no differs ↦ get_or-set_other l x y 0 0 differs ∙ other differs
]

pub zero_stays : (cs l : List ℕ) (y : ℕ) → get_or l y 0 ≡ 0 → get_or (with_marks 0 cs l) y 0 ≡ 0
unfolding put
zero_stays [] l y e = e
zero_stays (x ∷ cs) l y e = zero_stays cs (set l x 0) y (set_zero l x y (λ _. e))

pub marked_zero : (cs l : List ℕ) (p : ℕ) → p < length cs → get_or (with_marks 0 cs l) (get_or cs p 0) 0 ≡ 0
unfolding put
marked_zero [] l p h = absurd (omega arith)
marked_zero (x ∷ cs) l zero h = zero_stays cs (set l x 0) x (set_zero l x x (λ differs. absurd (differs refl)))
marked_zero (x ∷ cs) l (suc p) h = marked_zero cs (set l x 0) p (omega arith)
