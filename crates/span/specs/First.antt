-- The first number of a list that is a sum of earlier ones (02, R-8).
--   first_sum vs         its position; 0 where there is none. Which earlier ones it is the sum of, its `mask` says
--   FirstSum vs i m     number i of vs is the sum of the earlier ones that m selects, and no number before it is a sum of earlier ones. Of a dependent list this is so of `first_sum` and its `mask`
--                       (law `first_sum_law`), and of no others (law `first_only`)
use Rattle.std.specs.Prelude.{ℕ, ◌^◌, ◌<◌, ◌≡◌, List, length, get_or, take}
use Rattle.kinds.specs.Decided.{some_below}
use Rattle.kinds.specs.Search.{found}
use Rattle.bits.specs.Image.{image}
use Rattle.span.specs.Sums.{SumOf}
use Rattle.span.specs.Decisions.{sum_of?}

unfoldable pub first_sum : List ℕ → ℕ
unfolding some_below sum_of?
first_sum vs = found (some_below (λ i. sum_of? (take i vs) (get_or vs i 0)) (length vs))

pub record FirstSum (vs : List ℕ) (i m : ℕ) : Type 0 where
  pub inside : i < length vs
  pub earlier : m < 2 ^ i
  pub sum : image vs m ≡ get_or vs i 0
  pub first : (j : ℕ) → j < i → ¬ SumOf (take j vs) (get_or vs j 0)
