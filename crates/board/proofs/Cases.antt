-- What C is told, in the order that board.h gives: the places of the state a, h, r; of what a tick says, whether a tick was handed out, and after it what a refusal names; and the three sums.
use Prim.Native.Nat.{ℕ}
use mathlib.Core.Path.{◌≡◌, refl}
use mathlib.Core.Bool.{true, false}
use mathlib.Core.List.{List, [], ◌∷◌, map}
use Rattle.std.specs.Prelude.{Ok, Err}
use Rattle.kinds.specs.declared.Port.{Port}
use Rattle.kinds.specs.declared.Refusal.TheVariants.{Layout, WriteClash, Overwrite, ReadClash}
use Rattle.state.specs.declared.State.{State}
use Rattle.board.specs.Names.{state_in, state_out, said_after, sums_after}

places_in : state_in (2 ∷ 1 ∷ 4 ∷ []) ≡ record { a = 2; h = 1; r = 4 }
places_in = refl

places_out : state_out (record { a = 2; h = 1; r = 4 }) ≡ 2 ∷ 1 ∷ 4 ∷ []
places_out = refl

abbrev before : List ℕ
before = 7 ∷ 8 ∷ 9 ∷ []

abbrev after : State
after = record { a = 2; h = 1; r = 4 }

abbrev port : ℕ → Port
port p = record { 0 = p }

told : map (λ a. said_after a before) (Ok (record { state = after; handed = true }) ∷ Ok (record { state = after; handed = false }) ∷ Err (WriteClash (port 1) (port 3)) ∷ Err (ReadClash (port 0) (port 2)) ∷ Err Overwrite ∷ [])
    ≡ (1 ∷ 8 ∷ 9 ∷ []) ∷ (0 ∷ 8 ∷ 9 ∷ []) ∷ (7 ∷ 1 ∷ 3 ∷ []) ∷ (7 ∷ 0 ∷ 2 ∷ []) ∷ before ∷ []
told = refl

summed : map (λ a. sums_after a before) (Ok (record { switches = 2; multiplexers = 3; gates = 4 }) ∷ Err Layout ∷ []) ≡ (2 ∷ 3 ∷ 4 ∷ []) ∷ before ∷ []
summed = refl
