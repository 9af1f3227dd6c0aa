-- Decisions of what this crate's meanings state. Each carries its proof, so none has to be read.
--   filled? l x                 whether cell x is filled
--   want_one_bank? k cs p q       whether port p and a later port q want one bank
--   later_wants? k cs p          whether some later port wants the bank of port p: a search from port 0 up
--   clash? k cs                 whether some port has such a later one: a search from port 0 up
--   some_filled? l cs, some_empty? l cs      whether some cell of cs is filled, is empty
--   countable? writes reads     whether ports have numbers for all cells
use Rattle.std.specs.Prelude.{ℕ, List, length, get_or}
use Rattle.std.proofs.Math.Decide.{dec_lt, dec_le, ℕ_discrete}
use Rattle.kinds.specs.Decided.{both, through, opposite, some_below}
use Rattle.kinds.specs.Frame.{bank_of}
use Rattle.faults.specs.Marks.{Filled}
use Rattle.faults.specs.Faults.{WantOneBank, LaterWants, Clash, SomeFilled, SomeEmpty, most_cells, Countable}

abbrev pub filled? : (l : List ℕ) (x : ℕ) → Dec (Filled l x)
filled? l x = opposite (ℕ_discrete (get_or l x 0) 0)

abbrev pub want_one_bank? : (k : ℕ) (cs : List ℕ) (p q : ℕ) → Dec (WantOneBank k cs p q)
want_one_bank? k cs p q = both (dec_lt p q) (ℕ_discrete (bank_of k (get_or cs p 0)) (bank_of k (get_or cs q 0)))

abbrev pub later_wants? : (k : ℕ) (cs : List ℕ) (p : ℕ) → Dec (LaterWants k cs p)
later_wants? k cs p = some_below (want_one_bank? k cs p) (length cs)

abbrev pub clash? : (k : ℕ) (cs : List ℕ) → Dec (Clash k cs)
clash? k cs = some_below (later_wants? k cs) (length cs)

abbrev pub some_filled? : (l cs : List ℕ) → Dec (SomeFilled l cs)
some_filled? l cs = some_below (λ p. filled? l (get_or cs p 0)) (length cs)

abbrev pub some_empty? : (l cs : List ℕ) → Dec (SomeEmpty l cs)
some_empty? l cs = some_below (λ p. opposite (filled? l (get_or cs p 0))) (length cs)

unfoldable pub countable? : (writes reads : List ℕ) → Dec (Countable writes reads)
unfolding dec_le
countable? writes reads =
    through (λ (w, r). record { written = w; read = r }, λ c. (c.written, c.read)) (both (dec_le (length writes) most_cells) (dec_le (length reads) most_cells))
