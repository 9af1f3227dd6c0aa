-- When a call is refused (01, 'When a tool says no', 11 to 14), and which pair of ports the refusal names.
--   first_port k cs, second_port k cs      the first port that has a later one that wants its bank, and the first such later one
--   pair_from k cs d             these two, where d decides whether there is a clash
--   first_pair_of k cs              these two, or none
--   ports_of x                   the two ports of a pair, by number, the first one first; none where there is no pair
--   clash F k cs                11 and 13: two written, or two read, words want one bank; F is the refusal that names the pair
--   overwrite l cs              12: a cell to be written is filled
--   empty_read l cs              14: a cell to be read is empty
--   faults k writes reads w l   11 to 14, of the cells that a call writes and of those that it reads, by port, where l is the marks as they came, and w those that 12 is judged on.
--                               A call that brings no words writes no cells, and one with nothing to read reads none: then nothing of that side applies
--   fault_table after k writes reads l      2 where ports have no numbers for all cells, and then 11 to 14
use Rattle.std.specs.Prelude.{ℕ, Bool, List, [], ◌∷◌, Option, Some, None}
use Rattle.kinds.specs.Search.{found}
use Rattle.kinds.specs.First.{Reason, unless}
use Rattle.kinds.specs.declared.Port.{Port}
use Rattle.kinds.specs.declared.Refusal.{Refusal}
use Rattle.kinds.specs.declared.Refusal.TheVariants.{Length, WriteClash, Overwrite, ReadClash, EmptyRead}
use Rattle.faults.specs.Faults.{Clash, SomeFilled, SomeEmpty, Countable, judged_on}
use Rattle.faults.specs.Decisions.{later_wants?, clash?, some_filled?, some_empty?, countable?}

abbrev pub first_port : ℕ → List ℕ → ℕ
first_port k cs = found (clash? k cs)

abbrev pub second_port : ℕ → List ℕ → ℕ
second_port k cs = found (later_wants? k cs (first_port k cs))

abbrev pub pair_from : (k : ℕ) (cs : List ℕ) → Dec (Clash k cs) → Option (Port × Port)
pair_from k cs (yes c) = Some (record { 0 = first_port k cs }, record { 0 = second_port k cs })
pair_from k cs (no n) = None

abbrev pub first_pair_of : ℕ → List ℕ → Option (Port × Port)
first_pair_of k cs = pair_from k cs (clash? k cs)

abbrev pub ports_of : Option (Port × Port) → List ℕ
ports_of None = []
ports_of (Some (p, q)) = p.0 ∷ q.0 ∷ []

abbrev pub clash : (Port → Port → Refusal) → ℕ → List ℕ → Reason
clash F k cs = record { refusal = F (record { 0 = first_port k cs }) (record { 0 = second_port k cs }); applies = Clash k cs; decided = clash? k cs }

abbrev pub overwrite : List ℕ → List ℕ → Reason
overwrite l cs = record { refusal = Overwrite; applies = SomeFilled l cs; decided = some_filled? l cs }

abbrev pub empty_read : List ℕ → List ℕ → Reason
empty_read l cs = record { refusal = EmptyRead; applies = SomeEmpty l cs; decided = some_empty? l cs }

abbrev pub faults : ℕ → List ℕ → List ℕ → List ℕ → List ℕ → List Reason
faults k writes reads w l = clash WriteClash k writes ∷ overwrite w writes ∷ clash ReadClash k reads ∷ empty_read l reads ∷ []

abbrev pub fault_table : Bool → ℕ → List ℕ → List ℕ → List ℕ → List Reason
fault_table after k writes reads l = unless Length (Countable writes reads) (countable? writes reads) ∷ faults k writes reads (judged_on after reads l) l
