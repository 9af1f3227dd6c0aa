-- The cases that 01 marks, in its order ('Frames we tried by hand').
--   Case                      what 01 says of one: the stages of a plan, its addresses and wirings, a frame out, a refusal of the planner, a verdict of the inspector
--   AsSaid c                   01 is right about it, on the written meanings
--   EachAsSaid cs                   01 is right about each case of cs
--   reversal                  the sheet planned for bit reversal
--   marked_cases                    the cases
use Rattle.std.specs.Prelude.{ℕ, ◌≡◌, List, [], ◌∷◌, set, replicate}
use Rattle.kinds.specs.Edition.{edition1, sheet_places}
use Rattle.kinds.specs.Frame.{ticks, in_order}
use Rattle.kinds.specs.First.{first_of}
use Rattle.kinds.specs.Refusal.{given}
use Rattle.sheet.specs.Sheet.{flat}
use Rattle.construction.specs.Planned.{planned_read, planned_write, planned_sheet}
use Rattle.plan.specs.Tool.{plan_table}
use Rattle.trial.specs.Trial.{leaves_in_tick}
use Rattle.inspect.specs.Tool.{inspect_table}

pub data Case : Type 0 where
  -- write stages, read stages: direction, control, direction, ..
  stages : (n k : ℕ) (C write read : List ℕ) → Case
  -- of either side addresses and wiring
  columns : (n k : ℕ) (C write_addresses read_addresses write_wiring read_wiring : List ℕ) → Case
  -- words 0 to 2^n - 1, run through the planned sheet: each tick out
  frame_out : (n k : ℕ) (C : List ℕ) (out : List (List ℕ)) → Case
  refusal : (n k : ℕ) (C : List ℕ) (number : ℕ) → Case
  verdict : (n k : ℕ) (C sheet : List ℕ) (number : ℕ) → Case

abbrev pub AsSaid : Case → Type 0
AsSaid (stages n k C write read) = (flat (planned_write n k C).stages ≡ write) × (flat (planned_read n k C).stages ≡ read)
AsSaid (columns n k C wa ra ww rw) =
    ((planned_write n k C).addresses ≡ wa) × ((planned_read n k C).addresses ≡ ra) × ((planned_write n k C).wiring ≡ ww) × ((planned_read n k C).wiring ≡ rw)
AsSaid (frame_out n k C out) = in_order (ticks n k) (leaves_in_tick edition1 n k (planned_sheet edition1 n k C)) ≡ out
AsSaid (refusal n k C number) = given (first_of (plan_table edition1 n k C (replicate (sheet_places edition1) 0))) ≡ number
AsSaid (verdict n k C sheet number) = given (first_of (inspect_table edition1 n k C sheet)) ≡ number

abbrev pub EachAsSaid : List Case → Type 0
EachAsSaid [] = Unit
EachAsSaid (c ∷ cs) = AsSaid c × EachAsSaid cs

abbrev pub reversal : List ℕ
reversal = planned_sheet edition1 3 1 (4 ∷ 2 ∷ 1 ∷ [])

abbrev pub marked_cases : List Case
marked_cases =
    stages 1 1 (1 ∷ []) [] []
    ∷ refusal 1 1 (0 ∷ []) 4
    ∷ refusal 1 1 (2 ∷ []) 3
    ∷ stages 2 1 (2 ∷ 1 ∷ []) (1 ∷ 1 ∷ []) (1 ∷ 1 ∷ [])
    ∷ frame_out 2 1 (2 ∷ 1 ∷ []) ((0 ∷ 2 ∷ []) ∷ (1 ∷ 3 ∷ []) ∷ [])
    ∷ stages 2 1 (1 ∷ 3 ∷ []) (1 ∷ 1 ∷ []) []
    ∷ frame_out 2 1 (1 ∷ 3 ∷ []) ((0 ∷ 1 ∷ []) ∷ (3 ∷ 2 ∷ []) ∷ [])
    ∷ stages 2 2 (2 ∷ 1 ∷ []) [] []
    ∷ frame_out 2 2 (2 ∷ 1 ∷ []) ((0 ∷ 2 ∷ 1 ∷ 3 ∷ []) ∷ [])
    ∷ columns 3 1 (4 ∷ 2 ∷ 1 ∷ []) (2 ∷ 1 ∷ 0 ∷ []) (0 ∷ 1 ∷ 2 ∷ []) (1 ∷ []) (1 ∷ [])
    ∷ stages 3 1 (4 ∷ 2 ∷ 1 ∷ []) (1 ∷ 2 ∷ []) (1 ∷ 2 ∷ [])
    ∷ stages 4 2 (2 ∷ 4 ∷ 8 ∷ 1 ∷ []) (1 ∷ 2 ∷ []) (1 ∷ 1 ∷ [])
    ∷ verdict 3 1 (4 ∷ 2 ∷ 1 ∷ []) (set reversal 17 1) 8
    ∷ verdict 3 1 (4 ∷ 2 ∷ 1 ∷ []) (set reversal 10 0) 6
    ∷ verdict 3 1 (4 ∷ 2 ∷ 1 ∷ []) (set reversal 42 0) 7
    ∷ verdict 2 1 (1 ∷ 3 ∷ []) (planned_sheet edition1 2 1 (1 ∷ 2 ∷ [])) 9
    ∷ []
