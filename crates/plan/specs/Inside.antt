-- What the functions inside the crate promise one another.
--   bank_through k ss x        the bank of place x where the wiring is the identity, and ss are the stages
--   stages_in_range_prop n k ss      that the stages ss are in range has one proof at most, as a fact that a struct keeps has to
use Rattle.std.specs.Prelude.{ℕ, ◌^◌, List, [], ◌∷◌}
use Rattle.std.specs.Coded.{×_prop, Unit-prop}
use Rattle.std.proofs.Props.{props}
use Rattle.kinds.specs.Frame.{tick_bits, tick_of, port_of}
use Rattle.sheet.specs.declared.Stage.{Stage}
use Rattle.sheet.specs.Layout.{StageInRange, EachStage}
use Rattle.switches.specs.Stages.{bank_after}
use Rattle.construction.specs.Planned.{StagesInRange}

abbrev pub bank_through : ℕ → List Stage → ℕ → ℕ
bank_through k ss x = bank_after ss (tick_of k x) (port_of k x)

each_prop : {Q : Stage → Type 0} → ((s : Stage) → IsProp (Q s)) → (ss : List Stage) → IsProp (EachStage Q ss)
each_prop one [] = Unit-prop
each_prop one (s ∷ ss) = ×_prop (one s) (each_prop one ss)

pub stages_in_range_prop : (n k : ℕ) (ss : List Stage) → IsProp (StagesInRange n k ss)
stages_in_range_prop n k = each_prop {Q = StageInRange (2 ^ k) (2 ^ tick_bits n k)} (λ s. Prim.hlevel props)
