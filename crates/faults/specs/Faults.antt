-- What makes a call stop (01, 'When a tool says no', 11 to 14), for any cells that it writes and reads. The cells cs are by port, l is the marks.
--   WantOneBank k cs p q        port p and a later port q want one bank. A half starts at bank 0, so the bank of a place is that of its cell
--   LaterWants k cs p           some later port wants the bank of port p
--   Clash k cs                  some port has such a later one
--   LowestPair k cs p q         "the first such pair, lowest port first", "smallest first port, then smallest second": p and q want one bank,
--                               no two ports that do have a smaller first, and none with the first port p have a smaller second
--   SomeFilled l cs             some cell of cs is filled
--   SomeEmpty l cs              some cell of cs is empty
--   SomeMarked b l cs           the mark of some cell of cs says filled, or says empty, as b asks
--   judged_on after reads l      the marks that 12 is judged on: those after this call's read, where after says so, else those that came. The run of a sheet takes those that came
--   most_cells                   the most cells whose ports have numbers of 32 bits
--   Countable writes reads      there are no more cells than that
use Rattle.std.specs.Prelude.{ℕ, ◌^◌, ◌<◌, ◌≤◌, ◌≡◌, Bool, cond, List, length, get_or}
use Rattle.kinds.specs.Answers.{Says}
use Rattle.kinds.specs.Frame.{bank_of}
use Rattle.faults.specs.Marks.{Filled, with_marks}

abbrev pub WantOneBank : ℕ → List ℕ → ℕ → ℕ → Type 0
WantOneBank k cs p q = (p < q) × (bank_of k (get_or cs p 0) ≡ bank_of k (get_or cs q 0))

abbrev pub LaterWants : ℕ → List ℕ → ℕ → Type 0
LaterWants k cs p = (q : ℕ) × (q < length cs) × WantOneBank k cs p q

abbrev pub Clash : ℕ → List ℕ → Type 0
Clash k cs = (p : ℕ) × (p < length cs) × LaterWants k cs p

pub record LowestPair (k : ℕ) (cs : List ℕ) (p q : ℕ) : Type 0 where
  pub inside : q < length cs
  pub one_bank : WantOneBank k cs p q
  pub first : (i j : ℕ) → j < length cs → WantOneBank k cs i j → p ≤ i
  pub second : (j : ℕ) → j < length cs → WantOneBank k cs p j → q ≤ j

abbrev pub SomeFilled : List ℕ → List ℕ → Type 0
SomeFilled l cs = (p : ℕ) × (p < length cs) × Filled l (get_or cs p 0)

abbrev pub SomeEmpty : List ℕ → List ℕ → Type 0
SomeEmpty l cs = (p : ℕ) × (p < length cs) × ¬ Filled l (get_or cs p 0)

abbrev pub SomeMarked : Bool → List ℕ → List ℕ → Type 0
SomeMarked b l cs = (p : ℕ) × (p < length cs) × Says b (Filled l (get_or cs p 0))

abbrev pub judged_on : Bool → List ℕ → List ℕ → List ℕ
judged_on after reads l = cond after (with_marks 0 reads l) l

abbrev pub most_cells : ℕ
most_cells = 2 ^ 32

pub record Countable (writes reads : List ℕ) : Type 0 where
  pub written : length writes ≤ most_cells
  pub read : length reads ≤ most_cells
