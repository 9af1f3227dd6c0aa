-- The meanings on sheets of 01. The sheet planned for bit reversal at n 3, k 1 (write addresses 2 1 0, read addresses 0 1 2, wirings 1, stages (1,2) and (1,2)) is
-- taken, and read as it was laid out.
--   reversal       that sheet
--   staged m       a side of eight stages (1, 31), written down as m
use Prim.Native.Nat.{ℕ, zero, suc, ◌+◌}
use mathlib.Core.Path.{◌≡◌, refl}
use mathlib.Core.List.{List, [], ◌∷◌, ◌++◌, map}
use native.Mathlib.Decide.{ℕ_discrete, dec_le, dec_lt}
use lib.ListN.{set, replicate}
use Rattle.kinds.specs.Edition.{edition1}
use Rattle.kinds.specs.Decisions.{sized?, right_lengths?}
use Rattle.kinds.specs.Refusal.{given}
use Rattle.kinds.specs.First.{first_of}
use Rattle.kinds.specs.Decided.{each_below}
use Rattle.bits.specs.Decisions.{all_below?}
use Rattle.sheet.specs.Sheet.{stages_in, write_side, read_side}
use Rattle.sheet.specs.Decisions.{from_to?, stage_in_range?, each_stage?, in_range?, all_zero?, formed_side?, well_formed?}
use Rattle.sheet.specs.Table.{sheet_table}

abbrev zeros : ℕ → List ℕ
zeros n = replicate n 0

abbrev pub reversal : List ℕ
reversal =
    (2 ∷ 1 ∷ 0 ∷ zeros 7) ++ (1 ∷ zeros 4) ++ (1 ∷ 1 ∷ 2 ∷ zeros 14)
    ++ (0 ∷ 1 ∷ 2 ∷ zeros 7) ++ (1 ∷ zeros 4) ++ (1 ∷ 1 ∷ 2 ∷ zeros 14)

read_off : (write_side edition1 3 1 reversal ≡ record { addresses = 2 ∷ 1 ∷ 0 ∷ []; wiring = 1 ∷ []; stages = record { direction = 1; control = 2 } ∷ [] })
    × (read_side edition1 3 1 reversal ≡ record { addresses = 0 ∷ 1 ∷ 2 ∷ []; wiring = 1 ∷ []; stages = record { direction = 1; control = 2 } ∷ [] })
unfolding stages_in
read_off = (refl, refl)

abbrev answer : ℕ → ℕ → List ℕ → ℕ
answer n k s = given (first_of (sheet_table edition1 n k s []))

-- the answers where one place of the reversal sheet holds another number, on the write side and on the read side
abbrev spoilt : ℕ × ℕ → ℕ × ℕ
spoilt (j, v) = (answer 3 1 (set reversal j v), answer 3 1 (set reversal (32 + j) v))

abbrev pub staged : ℕ → List ℕ
staged m = zeros 15 ++ (m ∷ flat 8)
  where
    flat : ℕ → List ℕ
    flat zero = []
    flat (suc s) = 1 ∷ 31 ∷ flat s

-- a side at n 2, k 2, where t is 0: the address column a, the wiring 1 2, and a count with one stage
abbrev one_tick : ℕ → ℕ → List ℕ
one_tick a m = (a ∷ zeros 9) ++ (1 ∷ 2 ∷ zeros 3) ++ (m ∷ m ∷ m ∷ zeros 14)

-- Sizes out of range give 1, another length 2, another n 5. In range: an address of 2^t - 1, a wiring of 0, controls of 1 and 2^t - 1. One number changed gives 5: one beyond its range in each
-- field, a direction or a control of 0, and something in an unused place of each kind. Eight stages are taken, nine give 5, and so does one too few. At t = 0 any stage gives 5, and any address.
answers : (map (λ (n, k, s). answer n k s) (
    (3, 1, reversal) ∷ (3, 0, reversal) ∷ (11, 1, []) ∷ (3, 1, []) ∷ (3, 1, reversal ++ (0 ∷ [])) ∷ (2, 1, reversal) ∷ []
    ) ≡ 0 ∷ 1 ∷ 1 ∷ 2 ∷ 2 ∷ 5 ∷ [])
    × (map spoilt ((2, 3) ∷ (10, 0) ∷ (17, 1) ∷ (17, 3) ∷ []) ≡ replicate 4 (0, 0))
    × (map spoilt (
    (2, 4) ∷ (10, 2) ∷ (15, 0) ∷ (15, 2) ∷ (16, 0) ∷ (16, 2) ∷ (17, 0) ∷ (17, 4) ∷ (3, 1) ∷ (9, 1) ∷ (11, 1) ∷ (14, 1) ∷ (18, 1) ∷ (31, 1) ∷ []
    ) ≡ replicate 14 (5, 5))
    × (map (λ m. answer 10 5 (staged m ++ staged 8)) (7 ∷ 8 ∷ 9 ∷ []) ≡ 5 ∷ 0 ∷ 5 ∷ [])
    × (map (λ (a, m). answer 2 2 (one_tick a m ++ one_tick 0 0)) ((0, 0) ∷ (0, 1) ∷ (1, 0) ∷ []) ≡ 0 ∷ 5 ∷ 5 ∷ [])
unfolding first_of sized? dec_le right_lengths? ℕ_discrete stages_in from_to? stage_in_range? each_stage? all_below? in_range? all_zero? formed_side? well_formed? each_below dec_lt
answers = (refl, refl, refl, refl, refl)
