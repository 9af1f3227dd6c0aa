-- What C is told in three places: of 4 the column and the mask, of 11 and 13 the two ports, and of no other answer anything.
use Prim.Native.Nat.{ℕ}
use mathlib.Core.Path.{◌≡◌, refl}
use mathlib.Core.List.{List, [], ◌∷◌, map}
use mathlib.Core.Option.{none, some}
use Rattle.kinds.specs.declared.Port.{Port}
use Rattle.kinds.specs.declared.Refusal.TheVariants.{Sizes, TooLarge, Dependent, Differs, WriteClash, Overwrite, ReadClash}
use Rattle.told.specs.Told.{named}

abbrev before : List ℕ
before = 7 ∷ 8 ∷ 9 ∷ []

abbrev port : ℕ → Port
port p = record { 0 = p }

told : map (λ o. named o before) (some (Dependent 2 1) ∷ some (WriteClash (port 1) (port 3)) ∷ some (ReadClash (port 0) (port 2)) ∷ [])
    ≡ (7 ∷ 2 ∷ 1 ∷ []) ∷ (7 ∷ 1 ∷ 3 ∷ []) ∷ (7 ∷ 0 ∷ 2 ∷ []) ∷ []
told = refl

untold : map (λ o. named o before) (none ∷ some Sizes ∷ some TooLarge ∷ some Differs ∷ some Overwrite ∷ []) ≡ before ∷ before ∷ before ∷ before ∷ before ∷ []
untold = refl
