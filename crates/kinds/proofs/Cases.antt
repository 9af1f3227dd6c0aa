-- 01's sizes and refusals on the written meanings: a sheet has 64 places, 32 a side; n 10 with k 5 is taken, and n 11, k 6, k 0, and n 2 with k 3 are not;
-- 4 carries its column and its mask, and 11 and 13 their ports; an answer that is no refusal is 0, and of several reasons the first that applies is given.
use mathlib.Core.Path.{◌≡◌, refl}
use mathlib.Core.List.{[], ◌∷◌, map}
use native.Mathlib.Omega.{arith}
use Rattle.kinds.specs.Edition.{edition1, side_places, sheet_places, SizedN, Sized}
use Rattle.kinds.specs.Refusal.{values_of, given}
use Rattle.kinds.specs.First.{Reason, first_of}
use Rattle.kinds.specs.declared.Refusal.{Refusal}
use Rattle.kinds.specs.declared.Refusal.TheVariants.{Sizes, Length, TooLarge, Dependent, Layout, WriteClash, ReadClash}

places : (side_places edition1 ≡ 32) × (sheet_places edition1 ≡ 64)
places = (refl, refl)

largest : Sized edition1 10 5
largest = record { frame = record { least = omega arith; most = omega arith }; least = omega arith; most = omega arith }

outside : (¬ SizedN edition1 11) × (¬ Sized edition1 10 6) × (¬ Sized edition1 10 0) × (¬ Sized edition1 2 3)
outside = (λ s. omega (arith, s.most), λ s. omega (arith, s.most), λ s. omega (arith, s.least), λ s. omega (arith, s.most))

values : map values_of (TooLarge ∷ Dependent 2 1 ∷ Layout ∷ WriteClash (record { 0 = 0 }) (record { 0 = 3 }) ∷ ReadClash (record { 0 = 1 }) (record { 0 = 2 }) ∷ [])
    ≡ [] ∷ (2 ∷ 1 ∷ []) ∷ [] ∷ (0 ∷ 3 ∷ []) ∷ (1 ∷ 2 ∷ []) ∷ []
values = refl

always : Refusal → Reason
always r = record { refusal = r; applies = Unit; decided = yes tt }

never : Refusal → Reason
never r = record { refusal = r; applies = ⊥; decided = no (λ a. a) }

numbers : map (λ t. given (first_of t)) ((never Sizes ∷ always Length ∷ always Layout ∷ []) ∷ (never Sizes ∷ never Length ∷ []) ∷ [])
    ≡ 2 ∷ 0 ∷ []
unfolding first_of always never
numbers = refl
