-- When a sheet keeps the layout (01, 'What a sheet holds').
--   FromTo a b x          x is from a to b
--   StageInRange ports ticks s    the direction of s is from 1 to ports - 1, its control from 1 to ticks - 1
--   EachStage Q ss        every stage of ss has Q
--   InRange n k S         every number that the side S uses is in its range: addresses below 2^t, wiring below 2^k,
--                         "a direction is from 1 to 2^k - 1, a control from 1 to 2^t - 1"
--   AllZero l             every place of l is zero
--   FormedSide e n k l    a side with the places l keeps the layout: the stages are few enough, what is used is in range, and "unused places are zero"
--   WellFormed e n k s    both sides of the sheet s do
use Rattle.std.specs.Prelude.{ℕ, ◌-◌, ◌*◌, ◌^◌, ◌<◌, ◌≤◌, ◌≡◌, List, [], ◌∷◌, length, drop, get_or}
use Rattle.kinds.specs.Edition.{Edition}
use Rattle.kinds.specs.Frame.{tick_bits}
use Rattle.bits.specs.Image.{AllBelow}
use Rattle.sheet.specs.Sheet.{Side, address_places, wiring_places, count_place, stage_places, side_of, write_places, read_places}
use Rattle.sheet.specs.declared.Stage.{Stage}

pub record FromTo (a b x : ℕ) : Type 0 where
  pub least : a ≤ x
  pub most : x ≤ b

pub record StageInRange (ports ticks : ℕ) (s : Stage) : Type 0 where
  pub direction : FromTo 1 (ports - 1) s.direction
  pub control : FromTo 1 (ticks - 1) s.control

abbrev pub EachStage : (Stage → Type 0) → List Stage → Type 0
EachStage Q [] = Unit
EachStage Q (s ∷ ss) = Q s × EachStage Q ss

pub record InRange (n k : ℕ) (S : Side) : Type 0 where
  pub addresses : AllBelow (2 ^ tick_bits n k) S.addresses
  pub wiring : AllBelow (2 ^ k) S.wiring
  pub stages : EachStage (StageInRange (2 ^ k) (2 ^ tick_bits n k)) S.stages

abbrev pub AllZero : List ℕ → Type 0
AllZero l = (j : ℕ) → j < length l → get_or l j 0 ≡ 0

pub record FormedSide (e : Edition) (n k : ℕ) (l : List ℕ) : Type 0 where
  pub count : count_place e l ≤ e.most_stages
  pub used : InRange n k (side_of e n k l)
  pub addresses_unused : AllZero (drop n (address_places e l))
  pub wiring_unused : AllZero (drop k (wiring_places e l))
  pub stages_unused : AllZero (drop (2 * count_place e l) (stage_places e l))

pub record WellFormed (e : Edition) (n k : ℕ) (s : List ℕ) : Type 0 where
  pub write : FormedSide e n k (write_places e s)
  pub read : FormedSide e n k (read_places e s)
