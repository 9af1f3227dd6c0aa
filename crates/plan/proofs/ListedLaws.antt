-- One scan finds the rows: what it keeps of the rows of P1 and then those of P3 tells both choices.
--   others_listed      the rows of P1 that are not kept
--   kept_listed        the rows of P3 that are kept on the ports that P1 sends to 0
use Prim.Native.Nat.{ℕ, ◌+◌, ◌-◌, ◌<◌, ◌≤◌}
use mathlib.Core.Path.{◌≡◌, sym, ap, ◌∙◌}
use mathlib.Core.Bool.{true, false, Bool-discrete}
use mathlib.Core.List.{List, ◌++◌}
use mathlib.Core.Logic.{◌↔◌}
use native.Mathlib.Omega.{arith}
use native.Mathlib.Nat.{zero-add}
use lib.ListN.{length, get_or, length-map}
use Rattle.kinds.specs.Decided.{opposite}
use Rattle.kinds.specs.Frame.{tick_bits}
use Rattle.kinds.specs.Search.{those}
use Rattle.kinds.proofs.SearchLaws.{those_same}
use Rattle.kinds.proofs.TruthLaws.{stable, denied, says_no, says_same}
use Rattle.span.specs.Scan.{kept_at, others, mask}
use Rattle.span.specs.Rows.{dots, taken_on}
use Rattle.span.proofs.ScanLaws.{kept_those, Is_kept_prefix, sum_before?, IsKept}
use Rattle.span.proofs.TakenLaws.{taken_kept}
use Rattle.parts.specs.Parts.{P1, P3, rows_p1, rows_p3}
use Rattle.parts.proofs.PartLaws.{rows_of_below}
use Rattle.parts.proofs.RowLaws.{P1_count, P3_count}
use Rattle.construction.specs.Planned.{others_of_p1, ports_to_zero, kept_of_p3}
use Rattle.rows.specs.Listed.{kept_in, kept_numbers}
use Rattle.rows.proofs.KeptLaws.{told}
use Rattle.construction.proofs.ChoiceLaws.{zero_ports}

module _ (n k : ℕ) (C : List ℕ) (within : k ≤ n) where
  abbrev R : List ℕ
  R = rows_p1 k C

  abbrev S : List ℕ
  S = rows_p3 n k C

  module _ (ms : List ℕ) (masked : (i : ℕ) → i < n → get_or ms i 0 ≡ mask (R ++ S) i) where
    pub others_listed : kept_numbers ms 0 k false ≡ others_of_p1 k C
    unfolding kept_numbers others_of_p1 others
    others_listed =
        ap (those (λ j. Bool-discrete (kept_in ms (0 + j)) false)) {x = k - 0} {y = length R} (omega (arith, P1_count k C))
        ∙ those_same (λ j. Bool-discrete (kept_in ms (0 + j)) false) (sum_before? R) (length R)
        (λ j h.
        let kept = told (R ++ S) ms j (masked j (omega (arith, P1_count k C))) in
        let prefix = Is_kept_prefix R S j h in
        rw (zero-add j) (
          λ e. stable (sum_before? R j) (λ own. denied kept e (prefix.1 own)),
          λ s. says_same (kept_in ms j) false kept (says_no (λ own. prefix.0 own s)),
        ))

    pub kept_listed : kept_numbers ms k n true ≡ kept_of_p3 n k C
    unfolding kept_numbers kept_of_p3
    kept_listed =
        let T = taken_on (ports_to_zero k C) S in
        let zeros = zero_ports k C in
        let at = taken_kept k R S (ports_to_zero k C) (rows_of_below k k (P1 k C)) (rows_of_below (tick_bits n k) k (P3 k C)) zeros.0 zeros.1 in
        those_same (λ j. Bool-discrete (kept_in ms (k + j)) true) (λ j. opposite (sum_before? T j)) (n - k)
        (λ j h.
        let kept = told (R ++ S) ms (k + j) (masked (k + j) (omega arith)) in
        let taken : IsKept (R ++ S) (k + j) ↔ IsKept T j = rw (P1_count k C) at (at j (rw (P3_count n k C) h)) in
        (λ e. taken.0 (kept.0 e), λ own. kept.1 (taken.1 own)))
        ∙ sym (kept_those T (n - k))
        ∙ ap (kept_at T) (sym (length-map S (dots (ports_to_zero k C)) ∙ P3_count n k C))
