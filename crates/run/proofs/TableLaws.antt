-- The table of 1, 2, 5 and 10 to 14.
--   check_sound        where none of 1, 2, 5 and 10 applies, none of 1, 2 and 5 does, and a call over any sides has none of 1, 2 and 10
--   run_ascending      the table's numbers go up, so the first that applies is the lowest
--   run_sound          none applies exactly when nothing is wrong
use Prim.Native.Nat.{ℕ}
use mathlib.Core.Path.{◌≡◌}
use mathlib.Core.List.{List, ◌++◌}
use mathlib.Core.Logic.{◌↔◌}
use mathlib.Core.Option.{none}
use native.Mathlib.Omega.{arith}
use Rattle.kinds.specs.Edition.{Edition}
use Rattle.kinds.specs.Decisions.{sized?, right_lengths?}
use Rattle.kinds.specs.Frame.{ticks}
use Rattle.kinds.specs.First.{first_of, Ascending}
use Rattle.kinds.proofs.TruthLaws.{stable}
use Rattle.kinds.proofs.FirstLaws.{first_none, first_both}
use Rattle.sheet.specs.Decisions.{well_formed?}
use Rattle.sheet.specs.Table.{sheet_lengths, sheet_table}
use Rattle.sheet.proofs.TableLaws.{sheet_sound}
use Rattle.state.specs.Decisions.{possible?}
use Rattle.state.specs.declared.State.{State}
use Rattle.lent.specs.Lent.{Lent, lengths_of, run_lengths, call_table}
use Rattle.lent.specs.declared.Lengths.{Lengths}
use Rattle.lent.proofs.LentLaws.{call_sound}
use Rattle.run.specs.Tool.{check_table}
use Rattle.run.specs.Sound.{run_table, Sound}

pub check_sound : (e : Edition) (n k : ℕ) (s : List ℕ) (st : State) (l : Lengths) → first_of (check_table e n k s st l) ≡ none
    → (first_of (sheet_table e n k s (run_lengths n k l)) ≡ none) × (first_of (call_table e n k st l) ≡ none)
check_sound e n k s st l given =
    let (sheet, state) = (first_both (sheet_table e n k s (run_lengths n k l)) _).0 given in
    let sound = (sheet_sound e n k s (run_lengths n k l)).0 sheet in
    (sheet, (call_sound e n k st l).1 (record { sized = sound.0; right = sound.1.1; possible = stable (possible? (ticks n k) st) ((first_none _).0 state).0 }))

module _ (e : Edition) (n k : ℕ) (s : List ℕ) (b : Lent) where
  pub run_ascending : Ascending (run_table e n k s b)
  run_ascending = (omega arith, omega arith)

  pub run_sound : first_of (run_table e n k s b) ≡ none ↔ Sound e n k s b
  run_sound = (
    λ none_given.
        let (sizes, (lent, (layout, (state, (clash, (filled, (crossed, (empty, _)))))))) = (first_none (run_table e n k s b)).0 none_given in
        record {
          sized = stable (sized? e n k) sizes;
          right = stable (right_lengths? (sheet_lengths e s ++ run_lengths n k (lengths_of b))) lent;
          formed = stable (well_formed? e n k s) layout;
          possible = stable (possible? (ticks n k) b.state) state;
          writes_apart = clash;
          writes_empty = filled;
          reads_apart = crossed;
          reads_filled = empty;
        },
    λ ok.
        (first_none (run_table e n k s b)).1 (
          λ outside. outside ok.sized,
          (λ wrong. wrong ok.right, (λ broken. broken ok.formed, (λ not. not ok.possible, (ok.writes_apart, (ok.writes_empty, (ok.reads_apart, (ok.reads_filled, tt))))))),
        ),
  )
