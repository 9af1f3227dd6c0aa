-- An order tried out: it is planned, and words 0 to 2^n - 1 are run through the sheet (01, 'The order card').
--   word_at_place n C q         the word that leaves at place q under the order with the columns C: "word i leaves at place P i"
--   words_as_they_leave n C      words 0 to 2^n - 1 as they leave, place by place
--   trial_calls n k            the calls of the run: the frame of words 0 to 2^n - 1, and then as many blank ticks
--   leaves_in_tick e n k s c    what the run of the sheet s hands out, from fresh, in blank tick c
--   IsTried e n k C s f       s is the planned sheet; f is the words in lamp order, and tick by tick what the run of s hands out
--   trial_table e n k C s f    1 to 4, where the sheet s and the frame f are lent
--   Tries e n k C s s' f f' r     the trial: r is the lowest of 1 to 4 that applies; done, the order is tried with s' and f'; refused, s' is s and f' is f
use Rattle.std.specs.Prelude.{ℕ, ◌+◌, ◌^◌, ◌<◌, ◌≡◌, List, [], ◌∷◌, ◌++◌, length, Result}
use Rattle.std.proofs.Math.Decide.{ℕ_discrete}
use Rattle.kinds.specs.declared.Refusal.{Refusal}
use Rattle.kinds.specs.Answers.{Answers}
use Rattle.kinds.specs.Edition.{Edition, Sized}
use Rattle.kinds.specs.Decisions.{sized?}
use Rattle.kinds.specs.Frame.{ticks, in_order}
use Rattle.kinds.specs.First.{Reason}
use Rattle.kinds.specs.Refusal.{said}
use Rattle.kinds.specs.Decided.{some_below}
use Rattle.kinds.specs.Search.{found}
use Rattle.kinds.specs.Lengths.{exactly}
use Rattle.order.specs.Order.{place}
use Rattle.order.specs.Table.{order_table}
use Rattle.sheet.specs.Table.{sheet_lengths}
use Rattle.promise.specs.Series.{words_of_tick, one_frame}
use Rattle.promise.specs.Answered.{fresh_stand, outcome_at, called_on}
use Rattle.construction.specs.Planned.{IsPlanned}

abbrev pub word_at_place : ℕ → List ℕ → ℕ → ℕ
word_at_place n C q = found (some_below (λ i. ℕ_discrete (place C i) q) (2 ^ n))

abbrev pub words_as_they_leave : ℕ → List ℕ → List ℕ
words_as_they_leave n C = in_order (2 ^ n) (word_at_place n C)

abbrev pub trial_calls : ℕ → ℕ → List (List ℕ)
trial_calls n k = one_frame n k (λ i. i)

abbrev pub leaves_in_tick : Edition → ℕ → ℕ → List ℕ → ℕ → List ℕ
leaves_in_tick e n k s c = (outcome_at (called_on e n k s (trial_calls n k)) (fresh_stand n k) (ticks n k + c)).leaving

pub record IsTried (e : Edition) (n k : ℕ) (C s f : List ℕ) : Type 0 where
  pub planned : IsPlanned e n k C s
  pub frame : f ≡ words_as_they_leave n C
  pub run : (c : ℕ) → c < ticks n k → words_of_tick k f c ≡ leaves_in_tick e n k s c

abbrev pub trial_table : Edition → ℕ → ℕ → List ℕ → List ℕ → List ℕ → List Reason
trial_table e n k C s f = order_table (Sized e n k) (sized? e n k) n C (sheet_lengths e s ++ (length f, exactly (2 ^ n)) ∷ [])

abbrev pub Tries : Edition → ℕ → ℕ → List ℕ → List ℕ → List ℕ → List ℕ → List ℕ → Result Unit Refusal → Type 0
Tries e n k C s s' f f' r = Answers (trial_table e n k C s f) (said r) (IsTried e n k C s' f') ((s' ≡ s) × (f' ≡ f))
