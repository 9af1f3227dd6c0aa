-- When a call is not refused for what it is lent.
--   SoundCall e n k st l      neither sizes, lengths nor state are wrong
--   call_sound                none of 1, 2 and 10 applies exactly when that is so
use Prim.Native.Nat.{ℕ}
use mathlib.Core.Path.{◌≡◌}
use mathlib.Core.Logic.{◌↔◌}
use mathlib.Core.Option.{none}
use Rattle.kinds.specs.Edition.{Edition, Sized}
use Rattle.kinds.specs.Decisions.{sized?, right_lengths?}
use Rattle.kinds.specs.Frame.{ticks}
use Rattle.kinds.specs.First.{first_of}
use Rattle.kinds.specs.Lengths.{RightLengths}
use Rattle.kinds.proofs.TruthLaws.{stable}
use Rattle.kinds.proofs.FirstLaws.{first_none}
use Rattle.state.specs.States.{Possible}
use Rattle.state.specs.Decisions.{possible?}
use Rattle.state.specs.declared.State.{State}
use Rattle.lent.specs.Lent.{run_lengths, call_table}
use Rattle.lent.specs.declared.Lengths.{Lengths}

module _ (e : Edition) (n k : ℕ) (st : State) (l : Lengths) where
  pub record SoundCall : Type 0 where
    pub sized : Sized e n k
    pub right : RightLengths (run_lengths n k l)
    pub possible : Possible (ticks n k) st

  pub call_sound : first_of (call_table e n k st l) ≡ none ↔ SoundCall
  call_sound = (
    λ given.
        let (sizes, (lent, (state, _))) = (first_none (call_table e n k st l)).0 given in
        record { sized = stable (sized? e n k) sizes; right = stable (right_lengths? (run_lengths n k l)) lent; possible = stable (possible? (ticks n k) st) state },
    λ ok. (first_none (call_table e n k st l)).1 (λ outside. outside ok.sized, (λ wrong. wrong ok.right, (λ not. not ok.possible, tt))),
  )
