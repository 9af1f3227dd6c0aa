-- What is seen alike counts alike, and what is counted.
--   over_same                    what is seen alike is right alike
--   taken_same, handed_same      and takes in and hands out as many words
--   taken_all                    where no call is refused, all words that come are taken in
--   taken_none, handed_none      where every call is refused, none are, and none are handed out
use Prim.Native.Nat.{ℕ, zero, suc, ◌+◌, ◌<◌, ◌≤◌}
use mathlib.Core.Path.{◌≡◌, refl, sym, ap, ap₂}
use mathlib.Core.List.{List}
use mathlib.Core.Option.{Option, none, some}
use native.Mathlib.Omega.{arith}
use lib.ListN.{length}
use Rattle.kinds.specs.declared.Refusal.{Refusal}
use Rattle.promise.specs.Series.{call_at, words_before}
use Rattle.promise.specs.Seen.{Seen, if_successful, words_taken, words_handed, RightOver}
use Rattle.promise.proofs.SeriesLaws.{before_none, before_more}

pub over_same : {d n k : ℕ} {P : ℕ → ℕ → ℕ} {o u : ℕ → Seen} {S : List (List ℕ)} → ((j : ℕ) → j < length S → o j ≡ u j) → RightOver d n k P u S → RightOver d n k P o S
over_same same right = record {
  no_fault = λ j reach. rw (same j reach) (right.no_fault j reach);
  leaves = λ F T i j completed l is reach. rw (same j reach) (right.leaves F T i j completed l is reach);
}

pub taken_same : {o u : ℕ → Seen} (S : List (List ℕ)) (j : ℕ) → ((i : ℕ) → i < j → o i ≡ u i) → words_taken o S j ≡ words_taken u S j
unfolding words_taken
taken_same S zero same = refl
taken_same S (suc j) same =
    ap₂ (λ (a : ℕ) (c : Seen). a + if_successful c.refusal (length (call_at S j))) (taken_same S j (λ i h. same i (omega arith))) (same j (omega arith))

pub handed_same : {o u : ℕ → Seen} (j : ℕ) → ((i : ℕ) → i < j → o i ≡ u i) → words_handed o j ≡ words_handed u j
unfolding words_handed
handed_same zero same = refl
handed_same (suc j) same =
    ap₂ (λ (a : ℕ) (c : Seen). a + if_successful c.refusal (length c.leaving)) (handed_same j (λ i h. same i (omega arith))) (same j (omega arith))

pub taken_all : (o : ℕ → Seen) (S : List (List ℕ)) (j : ℕ) → j ≤ length S → ((i : ℕ) → i < j → (o i).refusal ≡ none) → words_taken o S j ≡ words_before S j
unfolding words_taken
taken_all o S zero reach fine = sym (before_none S)
taken_all o S (suc j) reach fine =
    let one : if_successful (o j).refusal (length (call_at S j)) ≡ length (call_at S j) = ap (λ (r : Option Refusal). if_successful r (length (call_at S j))) (fine j (omega arith)) in
    omega (arith, taken_all o S j (omega arith) (λ i h. fine i (omega arith)), one, before_more S j (omega arith))

module _ (o : ℕ → Seen) where
  abbrev AllRefused : ℕ → Type 0
  AllRefused j = (i : ℕ) → i < j → (x : Refusal) × ((o i).refusal ≡ some x)

  nothing : (j : ℕ) → AllRefused (suc j) → (m : ℕ) → if_successful (o j).refusal m ≡ 0
  nothing j refused m = ap (λ (r : Option Refusal). if_successful r m) (refused j (omega arith)).1

  pub taken_none : (S : List (List ℕ)) (j : ℕ) → ((i : ℕ) → i < j → (x : Refusal) × ((o i).refusal ≡ some x)) → words_taken o S j ≡ 0
  unfolding words_taken
  taken_none S zero refused = refl
  taken_none S (suc j) refused = omega (arith, taken_none S j (λ i h. refused i (omega arith)), nothing j refused (length (call_at S j)))

  pub handed_none : (j : ℕ) → ((i : ℕ) → i < j → (x : Refusal) × ((o i).refusal ≡ some x)) → words_handed o j ≡ 0
  unfolding words_handed
  handed_none zero refused = refl
  handed_none (suc j) refused = omega (arith, handed_none j (λ i h. refused i (omega arith)), nothing j refused (length (o j).leaving))
