-- One call, and a series of calls, on the sheet planned for bit reversal at n 3, k 1; the numbers of refused calls there; and the ports that a clash names.
use Prim.Native.Nat.{ℕ}
use mathlib.Core.Path.{◌≡◌, refl}
use mathlib.Core.Bool.{false}
use mathlib.Core.List.{List, [], ◌∷◌, ◌++◌, map}
use mathlib.Core.Option.{none, some}
use native.Mathlib.Decide.{ℕ_discrete, dec_le, dec_lt}
use lib.Count.{ones}
use lib.ListN.{set, replicate}
use Rattle.kinds.specs.Edition.{edition1}
use Rattle.kinds.specs.Decisions.{sized?, right_lengths?}
use Rattle.kinds.specs.Frame.{in_order}
use Rattle.kinds.specs.Refusal.{given}
use Rattle.kinds.specs.First.{first_of}
use Rattle.kinds.specs.Decided.{some_below, each_below}
use Rattle.kinds.specs.declared.Refusal.TheVariants.{WriteClash, ReadClash}
use Rattle.bits.specs.Image.{image}
use Rattle.bits.specs.Decisions.{all_below?}
use Rattle.bits.specs.Parity.{parity, dot}
use Rattle.sheet.specs.Sheet.{stages_in}
use Rattle.sheet.specs.Decisions.{from_to?, stage_in_range?, each_stage?, in_range?, all_zero?, formed_side?, well_formed?}
use Rattle.sheet.proofs.Cases.{reversal}
use Rattle.switches.specs.Stages.{bank_after}
use Rattle.state.specs.Decisions.{possible_clock?, possible?}
use Rattle.state.specs.declared.State.{State}
use Rattle.faults.specs.Marks.{put}
use Rattle.memory.specs.Memory.{Memory}
use Rattle.call.specs.Call.{Outcome}
use Rattle.run.specs.Tool.{sheet_call}

-- what a call computes with
computed : Unit {0}
unfolding first_of sized? dec_le right_lengths? ℕ_discrete stages_in from_to? stage_in_range? each_stage? all_below? in_range? all_zero? formed_side? well_formed? each_below dec_lt
    possible_clock? possible? some_below image bank_after dot parity ones in_order put
computed = tt

abbrev zeros : ℕ → List ℕ
zeros n = replicate n 0

abbrev state : ℕ → ℕ → ℕ → State
state a h r = record { a = a; h = h; r = r }

abbrev zeroed : ℕ → Memory
zeroed n = record { words = zeros n; marks = zeros n }

-- a call at bit reversal
abbrev reversing : State → List ℕ → Memory → Outcome
reversing st ws m = sheet_call edition1 3 1 reversal (record { state = st; came = ws; memory = m; out = zeros 2 })

first : reversing (state 0 0 4) (10 ∷ 11 ∷ []) (zeroed 16) ≡ record {
  refusal = none;
  state = state 1 0 4;
  handed = false;
  leaving = [];
  memory = record { words = (10 ∷ zeros 4) ++ (11 ∷ zeros 10); marks = (1 ∷ zeros 4) ++ (1 ∷ zeros 10) };
}
unfolding computed
first = refl

-- what is handed out in each call of a series, and the state and the memory after them all
series : List (List ℕ) → State → Memory → List (List ℕ) × State × Memory
series [] st m = ([], st, m)
series (ws ∷ more) st m =
    let o = reversing st ws m in
    let (outs, last, left) = series more o.state o.memory in
    (o.leaving ∷ outs, last, left)

-- A blank tick pauses the frame that comes in, and the frame that was completed leaves from the next call on, blank or not, as 01's listing has it. Emptied cells keep their words.
listing : series ((0 ∷ 1 ∷ []) ∷ (2 ∷ 3 ∷ []) ∷ [] ∷ (4 ∷ 5 ∷ []) ∷ (6 ∷ 7 ∷ []) ∷ (10 ∷ 11 ∷ []) ∷ [] ∷ [] ∷ (12 ∷ 13 ∷ []) ∷ [] ∷ []) (state 0 0 4) (zeroed 16) ≡ (
  replicate 5 [] ++ ((0 ∷ 4 ∷ []) ∷ (2 ∷ 6 ∷ []) ∷ (1 ∷ 5 ∷ []) ∷ (3 ∷ 7 ∷ []) ∷ [] ∷ []),
  state 2 1 4,
  record {
    words = 0 ∷ 4 ∷ 2 ∷ 6 ∷ 5 ∷ 1 ∷ 7 ∷ 3 ∷ 10 ∷ 0 ∷ 12 ∷ 0 ∷ 0 ∷ 11 ∷ 0 ∷ 13 ∷ [];
    marks = zeros 8 ++ (1 ∷ 0 ∷ 1 ∷ 0 ∷ 0 ∷ 1 ∷ 0 ∷ 1 ∷ []);
  },
)
unfolding series computed
listing = refl

-- One word for two gives 2. Impossible states give 10: a at 2^t, r below a, r above 2^t, h 2. A filled cell under a word gives 12, whatever its mark, and before 14; an empty cell gives 14.
numbers : map (λ (st, ws, mark). given (reversing st ws (record { words = zeros 16; marks = set (zeros 16) 5 mark })).refusal) (
    (state 0 0 4, 1 ∷ [], 0) ∷ (state 4 0 4, [], 0) ∷ (state 1 0 0, [], 0) ∷ (state 0 0 5, [], 0) ∷ (state 0 2 4, [], 0)
    ∷ (state 0 0 4, 1 ∷ 2 ∷ [], 7) ∷ (state 0 0 0, 1 ∷ 2 ∷ [], 1) ∷ (state 0 0 0, 1 ∷ 2 ∷ [], 0) ∷ (state 0 0 0, [], 0) ∷ []
    ) ≡ 2 ∷ 10 ∷ 10 ∷ 10 ∷ 10 ∷ 12 ∷ 12 ∷ 14 ∷ 14 ∷ []
unfolding computed
numbers = refl

-- at n 2, k 2, write wiring 1 1 and read wiring 0 0
clashes : map (λ (r, ws). (sheet_call edition1 2 2 (set (set (zeros 64) 10 1) 11 1) (record { state = state 0 0 r; came = ws; memory = zeroed 8; out = zeros 4 })).refusal) ((1, zeros 4) ∷ (0, []) ∷ [])
    ≡ some (WriteClash (record { 0 = 0 }) (record { 0 = 3 })) ∷ some (ReadClash (record { 0 = 0 }) (record { 0 = 1 })) ∷ []
unfolding computed
clashes = refl
