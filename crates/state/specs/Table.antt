-- When a state is refused (01, 'When a tool says no').
--   impossible T st       10: impossible run state
use Rattle.std.specs.Prelude.{ℕ}
use Rattle.kinds.specs.First.{Reason, unless}
use Rattle.kinds.specs.declared.Refusal.TheVariants.{State as Impossible}
use Rattle.state.specs.States.{Possible}
use Rattle.state.specs.Decisions.{possible?}
use Rattle.state.specs.declared.State.{State}

abbrev pub impossible : ℕ → State → Reason
impossible T st = unless Impossible (Possible T st) (possible? T st)
