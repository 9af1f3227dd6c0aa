-- Numbers that go to places of a list.
--   same_memory            memories of the same words and marks are the same
--   words_at_law               the words in cells, one by one
--   Putting cs vs l₀ l p   l is l₀ after the first p numbers went: those that are left make of l what all of them make of l₀. There is a number for each place
--   put_start, put_more, put_done      before the first; after one more; after the last
--   Marking v cs l₀ l p    the same, where each number is v
--   mark_start, mark_more  before the first; after one more
use Prim.Native.Nat.{ℕ, zero, suc, ◌+◌, ◌≤◌, ◌<◌}
use mathlib.Core.Path.{◌≡◌, refl, sym, ap, ◌∙◌}
use mathlib.Core.List.{List, [], ◌∷◌}
use native.Mathlib.Numerals.{add-one}
use native.Mathlib.Omega.{arith}
use lib.ListN.{length, get_or, set, drop, replicate, length-set, length-replicate, get_or-replicate, drop_of_length-le}
use lib.Seq.{drop-cons}
use Rattle.faults.specs.Marks.{put}
use Rattle.faults.proofs.MarkLaws.{put_nil, put_cons}
use Rattle.memory.specs.Memory.{Memory, words_at}

pub same_memory : {v w l r : List ℕ} → v ≡ w → l ≡ r → ◌≡◌ {A = Memory} (record { words = v; marks = l }) (record { words = w; marks = r })
same_memory e f = cc

pub words_at_law : (cs l : List ℕ) (p : ℕ) → p < length cs → get_or (words_at cs l) p 0 ≡ get_or l (get_or cs p 0) 0
words_at_law [] l p h = absurd (omega arith)
words_at_law (x ∷ cs) l zero h = refl
words_at_law (x ∷ cs) l (suc p) h = words_at_law cs l p (omega arith)

put_step : (cs vs l : List ℕ) (p : ℕ) → p < length cs → p < length vs
    → put (drop p cs) (drop p vs) l ≡ put (drop (p + 1) cs) (drop (p + 1) vs) (set l (get_or cs p 0) (get_or vs p 0))
put_step cs vs l p h k = rw (add-one p, drop-cons cs p 0, drop-cons vs p 0, put_cons)

pub record Putting (cs vs l₀ l : List ℕ) (p : ℕ) : Type 0 where
  pub one_each : length vs ≡ length cs
  pub same : length l ≡ length l₀
  pub rest : put (drop p cs) (drop p vs) l ≡ put cs vs l₀

pub put_start : {cs vs l : List ℕ} → length vs ≡ length cs → Putting cs vs l l 0
put_start e = record { one_each = e; same = refl; rest = refl }

module _ {cs vs l₀ l : List ℕ} {p : ℕ} (i : Putting cs vs l₀ l p) where
  pub put_more : p < length cs → Putting cs vs l₀ (set l (get_or cs p 0) (get_or vs p 0)) (p + 1)
  put_more h = record {
    one_each = i.one_each;
    same = length-set l (get_or cs p 0) (get_or vs p 0) ∙ i.same;
    rest = sym (put_step cs vs l p h (omega (arith, i.one_each))) ∙ i.rest;
  }

  pub put_done : length cs ≤ p → l ≡ put cs vs l₀
  put_done h = sym (ap (λ (x : List ℕ). put x (drop p vs) l) (drop_of_length-le cs h) ∙ put_nil (drop p vs) l) ∙ i.rest

abbrev pub Marking : ℕ → List ℕ → List ℕ → List ℕ → ℕ → Type 0
Marking v cs l₀ l p = Putting cs (replicate (length cs) v) l₀ l p

pub mark_start : (v : ℕ) {cs l : List ℕ} → Marking v cs l l 0
mark_start v {cs} = put_start (length-replicate (length cs) v)

pub mark_more : (v : ℕ) {cs l₀ l : List ℕ} {p : ℕ} → Marking v cs l₀ l p → p < length cs → Marking v cs l₀ (set l (get_or cs p 0) v) (p + 1)
mark_more v {cs} {p = p} i h = rw (get_or-replicate (length cs) p v 0 h) at (put_more i h)
