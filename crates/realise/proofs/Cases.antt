-- The run on sheets of 01: what series of calls hand out, and how the wrong sheets show.
--   gray, identity, turning, one_tick     sheets that pass, each for its own order
use Prim.Native.Nat.{ℕ}
use mathlib.Core.Path.{◌≡◌, refl}
use mathlib.Core.List.{List, [], ◌∷◌, ◌++◌, map, flatten}
use native.Mathlib.Decide.{ℕ_discrete, dec_le, dec_lt}
use lib.Count.{ones}
use lib.ListN.{length, get_or, set, replicate}
use Rattle.kinds.specs.Edition.{edition1}
use Rattle.kinds.specs.Frame.{in_order}
use Rattle.kinds.specs.Refusal.{given}
use Rattle.kinds.specs.First.{first_of}
use Rattle.kinds.specs.Decided.{some_below, each_below}
use Rattle.bits.specs.Image.{image}
use Rattle.bits.specs.Parity.{parity, dot}
use Rattle.span.specs.Decisions.{bijection?}
use Rattle.order.specs.Order.{place}
use Rattle.sheet.specs.Sheet.{stages_in}
use Rattle.sheet.proofs.Cases.{reversal}
use Rattle.switches.specs.Stages.{bank_after}
use Rattle.switches.specs.Cells.{M, N}
use Rattle.faults.specs.Marks.{put}
use Rattle.promise.specs.Series.{word_in, due_call, due_port}
use Rattle.promise.specs.Run.{Stand, standing}
use Rattle.promise.specs.Answered.{outcome_at, called_on}
use Rattle.realise.specs.Realises.{map_table}

-- what a sheet's maps and a call compute with
computed : Unit {0}
unfolding first_of ℕ_discrete stages_in each_below dec_le dec_lt some_below image bank_after dot parity ones in_order put bijection? standing flatten
computed = tt

abbrev zeros : ℕ → List ℕ
zeros n = replicate n 0

-- a side of n 2, from its address columns, its wiring column and what comes after that
abbrev side : ℕ → ℕ → ℕ → List ℕ → List ℕ
side a b w rest = (a ∷ b ∷ zeros 8) ++ (w ∷ zeros 4) ++ rest

abbrev no_stage : List ℕ
no_stage = zeros 17

abbrev one_stage : List ℕ
one_stage = 1 ∷ 1 ∷ 1 ∷ zeros 14

-- at n 2, k 1: the sheets planned for Gray code, for the identity, and for the columns 2 3, whose inverse is 3 1
abbrev pub gray : List ℕ
gray = side 0 1 1 one_stage ++ side 0 1 1 no_stage

abbrev pub identity : List ℕ
identity = side 0 1 1 no_stage ++ side 0 1 1 no_stage

abbrev pub turning : List ℕ
turning = side 1 1 1 no_stage ++ side 0 1 1 one_stage

-- a sheet with both maps singular
abbrev singular : List ℕ
singular = side 0 0 1 no_stage ++ side 0 0 1 no_stage

-- at n 2, k 2: the one for the columns 2 1
abbrev pub one_tick : List ℕ
one_tick = zeros 10 ++ (2 ∷ 1 ∷ zeros 20) ++ zeros 10 ++ (1 ∷ 2 ∷ zeros 20)

abbrev fresh : ℕ → ℕ → Stand
fresh places idle = record { state = record { a = 0; h = 0; r = idle }; memory = record { words = zeros places; marks = zeros places } }

-- the number that each call of a series is answered with, and the words that it hands out
abbrev told : ℕ → ℕ → List ℕ → Stand → List (List ℕ) → List (ℕ × List ℕ)
told n k s x S = in_order (length S) (λ j. let o = outcome_at (called_on edition1 n k s S) x j in (given o.refusal, o.leaving))

-- Gray code: the frame 0 1 2 3 leaves as 0 1 3 2. A frame leaves from the call after the one that completes it, blank or not, while the next comes in.
leaving : told 2 1 gray (fresh 8 2) ((0 ∷ 1 ∷ []) ∷ [] ∷ (2 ∷ 3 ∷ []) ∷ [] ∷ (4 ∷ 5 ∷ []) ∷ (6 ∷ 7 ∷ []) ∷ (8 ∷ 9 ∷ []) ∷ [] ∷ []) ≡ (
    (0, []) ∷ (0, []) ∷ (0, []) ∷ (0, 0 ∷ 1 ∷ []) ∷ (0, 3 ∷ 2 ∷ []) ∷ (0, []) ∷ (0, 4 ∷ 5 ∷ []) ∷ (0, 7 ∷ 6 ∷ []) ∷ [])
unfolding computed
leaving = refl

-- where a frame is one tick
at_once : told 2 2 one_tick (fresh 8 1) ((0 ∷ 1 ∷ 2 ∷ 3 ∷ []) ∷ (4 ∷ 5 ∷ 6 ∷ 7 ∷ []) ∷ [] ∷ [] ∷ []) ≡ ((0, []) ∷ (0, 0 ∷ 2 ∷ 1 ∷ 3 ∷ []) ∷ (0, 4 ∷ 6 ∷ 5 ∷ 7 ∷ []) ∷ (0, []) ∷ [])
unfolding computed
at_once = refl

abbrev one_frame_law : List (List ℕ)
one_frame_law = (0 ∷ 1 ∷ []) ∷ (2 ∷ 3 ∷ []) ∷ (4 ∷ 5 ∷ []) ∷ (6 ∷ 7 ∷ []) ∷ replicate 4 []

abbrev quiet : List (ℕ × List ℕ)
quiet = replicate 4 (0, [])

-- The bit reversal sheet, and spoilt: with write control 1 for 2 tick 2 finds its cells filled; with write wiring 0 two words of the first call want one bank; with read wiring 0 the first call that
-- reads finds two that do.
faults : map (λ s. told 3 1 s (fresh 16 4) one_frame_law) (reversal ∷ set reversal 17 1 ∷ set reversal 10 0 ∷ set reversal 42 0 ∷ []) ≡ (
    (quiet ++ ((0, 0 ∷ 4 ∷ []) ∷ (0, 2 ∷ 6 ∷ []) ∷ (0, 1 ∷ 5 ∷ []) ∷ (0, 3 ∷ 7 ∷ []) ∷ []))
    ∷ ((0, []) ∷ (0, []) ∷ (12, []) ∷ (12, []) ∷ quiet)
    ∷ (replicate 4 (11, []) ++ quiet)
    ∷ (quiet ++ replicate 4 (13, []))
    ∷ [])
unfolding computed
faults = refl

-- there M = N P for the identity, and still words are lost: 8, and the second call finds its cells filled
lost : (map (M edition1 2 1 singular) (0 ∷ 1 ∷ 2 ∷ 3 ∷ []) ≡ map (N edition1 2 1 singular) (0 ∷ 1 ∷ 2 ∷ 3 ∷ []))
    × (given (first_of (map_table edition1 2 1 (1 ∷ 2 ∷ []) singular)) ≡ 8)
    × (told 2 1 singular (fresh 8 2) ((0 ∷ 1 ∷ []) ∷ (2 ∷ 3 ∷ []) ∷ []) ≡ (0, []) ∷ (12, []) ∷ [])
unfolding computed
lost = (refl, refl, refl)

-- each word of one frame, completed in call 1, and the word that leaves when and where it is due under Gray code
abbrev judged : List ℕ → List (List ℕ) → List (ℕ × ℕ)
judged s S =
    in_order 4 (λ i. (word_in 2 S 0 i, get_or (outcome_at (called_on edition1 2 1 s S) (fresh 8 2) (due_call 0 1 (place (1 ∷ 3 ∷ [])) 1 i)).leaving (due_port 1 (place (1 ∷ 3 ∷ [])) i) 0))

-- equal words come out well on the identity's sheet too, and different words don't
content : map (λ (s, S). judged s S) (
    (gray, (0 ∷ 0 ∷ []) ∷ (1 ∷ 0 ∷ []) ∷ [] ∷ [] ∷ []) ∷ (identity, (5 ∷ 5 ∷ []) ∷ (5 ∷ 5 ∷ []) ∷ [] ∷ [] ∷ []) ∷ (identity, (0 ∷ 0 ∷ []) ∷ (1 ∷ 0 ∷ []) ∷ [] ∷ [] ∷ []) ∷ []
    ) ≡ ((0, 0) ∷ (0, 0) ∷ (1, 1) ∷ (0, 0) ∷ []) ∷ replicate 4 (5, 5) ∷ ((0, 0) ∷ (0, 0) ∷ (1, 0) ∷ (0, 1) ∷ []) ∷ []
unfolding computed
content = refl
