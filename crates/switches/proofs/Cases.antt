-- The maps on sheets of 01. On the sheet planned for bit reversal at n 3, k 1: addresses and banks of every word on the write side, the cells of M, and that they are those of N after the
-- order; the columns of M. With write control 1 for 2 two words share a cell.
use Prim.Native.Nat.{ℕ}
use mathlib.Core.Path.{◌≡◌, refl}
use mathlib.Core.List.{List, [], ◌∷◌, map}
use lib.Count.{ones}
use lib.ListN.{set}
use Rattle.kinds.specs.Edition.{edition1}
use Rattle.bits.specs.Image.{image, columns}
use Rattle.bits.specs.Parity.{parity, dot}
use Rattle.sheet.specs.Sheet.{Side, stages_in, write_side}
use Rattle.sheet.proofs.Cases.{reversal}
use Rattle.switches.specs.Stages.{bank_after}
use Rattle.switches.specs.Cells.{address_at, bank_at, M, N, cell_columns}

abbrev words : List ℕ
words = 0 ∷ 1 ∷ 2 ∷ 3 ∷ 4 ∷ 5 ∷ 6 ∷ 7 ∷ []

abbrev write : Side
write = write_side edition1 3 1 reversal

abbrev tick_and_port : List (ℕ × ℕ)
tick_and_port = (0, 0) ∷ (0, 1) ∷ (1, 0) ∷ (1, 1) ∷ (2, 0) ∷ (2, 1) ∷ (3, 0) ∷ (3, 1) ∷ []

addresses_and_banks : (map (λ (c, p). address_at 1 write c p) tick_and_port ≡ 0 ∷ 2 ∷ 1 ∷ 3 ∷ 0 ∷ 2 ∷ 1 ∷ 3 ∷ [])
    × (map (λ (c, p). bank_at write c p) tick_and_port ≡ 0 ∷ 1 ∷ 0 ∷ 1 ∷ 1 ∷ 0 ∷ 1 ∷ 0 ∷ [])
unfolding image stages_in bank_after dot parity ones
addresses_and_banks = (refl, refl)

cells : (map (M edition1 3 1 reversal) words ≡ 0 ∷ 5 ∷ 2 ∷ 7 ∷ 1 ∷ 4 ∷ 3 ∷ 6 ∷ [])
    × (map (λ i. N edition1 3 1 reversal (image (4 ∷ 2 ∷ 1 ∷ []) i)) words ≡ map (M edition1 3 1 reversal) words)
unfolding image stages_in bank_after dot parity ones
cells = (refl, refl)

columns_of_m : cell_columns 3 1 write ≡ 5 ∷ 2 ∷ 1 ∷ []
unfolding image columns stages_in bank_after dot parity ones
columns_of_m = refl

shared : map (M edition1 3 1 (set reversal 17 1)) words ≡ 0 ∷ 5 ∷ 3 ∷ 6 ∷ 0 ∷ 5 ∷ 3 ∷ 6 ∷ []
unfolding image stages_in bank_after dot parity ones
shared = refl
