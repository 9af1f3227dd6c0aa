-- Which numbers of a scan were kept, told from its masks.
--   told              the mask of a number tells whether it was kept
--   first_named       of a dependent list the first that was not kept is the first sum of earlier ones, and its mask says of which
--   none_named        of an independent list none was not kept
--   unkept_unique     there is one answer to which it is
use Prim.Native.Nat.{ℕ, ◌^◌, ◌≤◌, ◌<◌}
use mathlib.Core.Path.{◌≡◌, refl, sym, ◌∙◌}
use mathlib.Core.Bool.{Bool, true, false, Bool-discrete}
use mathlib.Core.List.{List}
use native.Mathlib.Omega.{arith}
use borrow.Author.Tests.{leb-true, le-leb, lt-leb}
use lib.ListN.{length, get_or}
use Rattle.std.specs.Prelude.{Option, Some, None}
use Rattle.kinds.specs.Answers.{Says}
use Rattle.kinds.specs.Decided.{some_below}
use Rattle.kinds.specs.Search.{found}
use Rattle.kinds.proofs.SearchLaws.{found_has, found_first}
use Rattle.span.specs.Sums.{Independent}
use Rattle.span.specs.Scan.{mask, masks}
use Rattle.span.specs.First.{first_sum}
use Rattle.span.proofs.ScanLaws.{IsKept, Is_kept_earlier}
use Rattle.span.proofs.MaskLaws.{mask_says, masks_at, masks_length}
use Rattle.span.proofs.RankLaws.{independent_all_kept}
use Rattle.span.proofs.FirstSumLaws.{first_sum_law}
use Rattle.rows.specs.Listed.{kept_in, FirstUnkept}
use Rattle.rows.specs.declared.Summed.{Summed}

pub told : (vs ms : List ℕ) (i : ℕ) → get_or ms i 0 ≡ mask vs i → Says (kept_in ms i) (IsKept vs i)
told vs ms i e = (
  λ kept. (mask_says vs i).1 (rw e at (leb-true (2 ^ i) (get_or ms i 0) kept)),
  λ kept. le-leb (2 ^ i) (get_or ms i 0) (rw e ((mask_says vs i).0 kept)),
)

-- the masks of a list, whatever comes after them
module _ {ms : List ℕ} {r : Option Summed} (u : FirstUnkept ms r) (vs : List ℕ) where
  pub first_named : length vs ≤ length ms → ((i : ℕ) → get_or ms i 0 ≡ get_or (masks vs) i 0) → ¬ Independent vs → r ≡ Some (record { at = first_sum vs; mask = mask vs (first_sum vs) })
  first_named few same dep =
      let f = first_sum_law vs dep in
      let i = first_sum vs in
      let its : (j : ℕ) → j < length vs → get_or ms j 0 ≡ mask vs j = λ j h. same j ∙ masks_at vs j h in
      let own = its i f.inside in
      rw (← own)
      (u.first i (omega (arith, f.inside)) (lt-leb (2 ^ i) (get_or ms i 0) (rw own f.earlier))
      (λ j h.
      let l : j < length vs = omega (arith, f.inside) in
      (told vs ms j (its j l)).1 ((Is_kept_earlier vs j (omega arith)).1 (f.first j h))))

module _ (vs : List ℕ) {r : Option Summed} (u : FirstUnkept (masks vs) r) where
  pub none_named : Independent vs → r ≡ None
  none_named independent = u.all_kept (λ j h. let l : j < length vs = rw masks_length at h in (told vs (masks vs) j (masks_at vs j l)).1 (independent_all_kept vs independent j l))

is_kept : (b : Bool) → ¬ (b ≡ false) → b ≡ true
is_kept true not = refl
is_kept false not = absurd (not refl)

pub unkept_unique : {ms : List ℕ} {r q : Option Summed} → FirstUnkept ms r → FirstUnkept ms q → r ≡ q
unkept_unique {ms} u w = elim (some_below unkept? (length ms)) [
  | yes some ↦
      let (inside, unkept) = found_has unkept? (length ms) some in
      let before : (i : ℕ) → i < found (some_below unkept? (length ms)) → kept_in ms i ≡ true = λ i h. is_kept (kept_in ms i) (found_first unkept? (length ms) i h) in
      u.first _ inside unkept before ∙ sym (w.first _ inside unkept before)
  | no none ↦
      let every : (j : ℕ) → j < length ms → kept_in ms j ≡ true = λ j h. is_kept (kept_in ms j) (λ e. none (j, h, e)) in
      u.all_kept every ∙ sym (w.all_kept every)
]
  where
    unkept? : (j : ℕ) → Dec (kept_in ms j ≡ false)
    unkept? j = Bool-discrete (kept_in ms j) false
