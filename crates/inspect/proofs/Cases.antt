-- The inspector's table, computed on the written meaning: sheets that pass; the bit reversal sheet (n 3, k 1) with one thing wrong before 6, and with two things wrong, of which the
-- lower is given.
use Prim.Native.Nat.{ℕ}
use mathlib.Core.Path.{◌≡◌, refl}
use mathlib.Core.List.{List, [], ◌∷◌, map}
use native.Mathlib.Decide.{ℕ_discrete, dec_le, dec_lt}
use lib.Count.{ones}
use lib.ListN.{set}
use Rattle.kinds.specs.Edition.{edition1}
use Rattle.kinds.specs.Decisions.{sized?, right_lengths?}
use Rattle.kinds.specs.Refusal.{given}
use Rattle.kinds.specs.First.{first_of}
use Rattle.kinds.specs.Decided.{some_below, each_below}
use Rattle.bits.specs.Image.{image}
use Rattle.bits.specs.Decisions.{all_below?}
use Rattle.bits.specs.Parity.{parity, dot}
use Rattle.span.specs.Decisions.{bijection?, independent?}
use Rattle.sheet.specs.Sheet.{stages_in}
use Rattle.sheet.specs.Decisions.{from_to?, stage_in_range?, each_stage?, in_range?, all_zero?, formed_side?, well_formed?}
use Rattle.sheet.proofs.Cases.{reversal}
use Rattle.switches.specs.Stages.{bank_after}
use Rattle.realise.proofs.Cases.{gray, identity, turning, one_tick}
use Rattle.inspect.specs.Tool.{inspect_table}

computed : Unit {0}
unfolding first_of ℕ_discrete sized? right_lengths? some_below each_below dec_le dec_lt image all_below? parity dot ones bijection? independent? stages_in from_to? stage_in_range? each_stage? in_range? all_zero? formed_side? well_formed? bank_after
computed = tt

abbrev verdict : ℕ × ℕ × List ℕ × List ℕ → ℕ
verdict (n, k, C, s) = given (first_of (inspect_table edition1 n k C s))

abbrev order : List ℕ
order = 4 ∷ 2 ∷ 1 ∷ []

-- a write control of 0
abbrev broken : List ℕ → List ℕ
broken s = set s 17 0

abbrev write_unwired : List ℕ → List ℕ
write_unwired s = set s 10 0

abbrev read_unwired : List ℕ → List ℕ
read_unwired s = set s 42 0

-- write control 1 for 2
abbrev shared : List ℕ → List ℕ
shared s = set s 17 1

-- planned sheets pass, and one for the inverse of its order does not
verdicts : map verdict (
    (3, 1, order, reversal) ∷ (2, 1, 1 ∷ 3 ∷ [], gray) ∷ (2, 1, 1 ∷ 2 ∷ [], identity) ∷ (2, 1, 2 ∷ 3 ∷ [], turning) ∷ (2, 2, 2 ∷ 1 ∷ [], one_tick) ∷ (2, 1, 3 ∷ 1 ∷ [], turning) ∷ []
    ) ≡ 0 ∷ 0 ∷ 0 ∷ 0 ∷ 0 ∷ 9 ∷ []
unfolding computed
verdicts = refl

refused_before : map verdict (
    (3, 4, order, reversal)
    ∷ (3, 1, 4 ∷ 2 ∷ [], reversal)
    ∷ (3, 1, order, [])
    ∷ (3, 1, 8 ∷ 2 ∷ 1 ∷ [], reversal)
    ∷ (3, 1, 4 ∷ 2 ∷ 6 ∷ [], reversal)
    ∷ (3, 1, order, broken reversal)
    ∷ []
    ) ≡ 1 ∷ 2 ∷ 2 ∷ 3 ∷ 4 ∷ 5 ∷ []
unfolding computed
refused_before = refl

two_wrong : map verdict (
    (11, 1, order, reversal)
    ∷ (3, 1, 8 ∷ 2 ∷ 1 ∷ [], [])
    ∷ (3, 1, 8 ∷ 8 ∷ 1 ∷ [], reversal)
    ∷ (3, 1, 4 ∷ 2 ∷ 6 ∷ [], broken reversal)
    ∷ (3, 1, order, write_unwired (broken reversal))
    ∷ (3, 1, order, write_unwired (read_unwired reversal))
    ∷ (3, 1, order, read_unwired (shared reversal))
    ∷ (3, 1, 4 ∷ 1 ∷ 2 ∷ [], shared reversal)
    ∷ []
    ) ≡ 1 ∷ 2 ∷ 3 ∷ 4 ∷ 5 ∷ 6 ∷ 7 ∷ 8 ∷ []
unfolding computed
two_wrong = refl
