-- What each refusal says, as 01's table 'When a tool says no' has it.
--   number_of r       its number
--   values_of r       the numbers that it carries: the column and the mask of 4 (02, R-8), the two ports of 11 and 13, else none
--   said a           the refusal that an answer gives; none where it is done
--   given o          the number of the refusal o; 0 where there is none
use Rattle.std.specs.Prelude.{ℕ, List, [], ◌∷◌, Result, Ok, Err}
use Rattle.std.proofs.Math.Option.{Option, none, some}
use Rattle.kinds.specs.declared.Refusal.{Refusal}
use Rattle.kinds.specs.declared.Refusal.TheVariants.{Sizes, Length, TooLarge, Dependent, Layout, WriteWiring, ReadWiring, SharedCell, Differs, State, WriteClash, Overwrite, ReadClash, EmptyRead, Card}

abbrev pub number_of : Refusal → ℕ
number_of Sizes = 1
number_of Length = 2
number_of TooLarge = 3
number_of (Dependent c m) = 4
number_of Layout = 5
number_of WriteWiring = 6
number_of ReadWiring = 7
number_of SharedCell = 8
number_of Differs = 9
number_of State = 10
number_of (WriteClash p q) = 11
number_of Overwrite = 12
number_of (ReadClash p q) = 13
number_of EmptyRead = 14
number_of Card = 15

abbrev pub values_of : Refusal → List ℕ
values_of Sizes = []
values_of Length = []
values_of TooLarge = []
values_of (Dependent c m) = c ∷ m ∷ []
values_of Layout = []
values_of WriteWiring = []
values_of ReadWiring = []
values_of SharedCell = []
values_of Differs = []
values_of State = []
values_of (WriteClash p q) = p.0 ∷ q.0 ∷ []
values_of Overwrite = []
values_of (ReadClash p q) = p.0 ∷ q.0 ∷ []
values_of EmptyRead = []
values_of Card = []

abbrev pub said : {A : Type 0} → Result A Refusal → Option Refusal
said (Ok x) = none
said (Err r) = some r

abbrev pub given : Option Refusal → ℕ
given none = 0
given (some r) = number_of r
