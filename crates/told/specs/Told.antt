-- What C is told of an answer: its number, and the values of a refusal.
--   named o l                   the three places l after the refusal o was given, if one was: the values that it carries stand from the second place on, and the rest of l is as it came
--   Besides before l r T K      a tool of C that is lent buffers beside those of the board's tool, whose lengths, and what they should be, are l. Where these are right, T holds: it does as the board's tool.
--                               Where one is wrong, that is 2 as well: r is the first that applies of the reasons that come before 2, and then 2; and K holds, everything lent is as it came
--   AnswersAs before T K l l' r   such a tool that is lent three places l for the values of a refusal: r is the number of an answer that meets T, the tool's contract, and l' is l after that answer. Where l is not three
--                               places: r is the first of before that applies, else 2; K holds, everything else lent is as it came, and l' is l
use Rattle.std.specs.Prelude.{ℕ, ◌≡◌, List, [], ◌∷◌, ◌++◌, length, take, drop, Result}
use Rattle.std.proofs.Math.Option.{Option, none, some}
use Rattle.kinds.specs.Answers.{over_front}
use Rattle.kinds.specs.First.{Reason, first_of}
use Rattle.kinds.specs.Lengths.{Wanted, exactly, RightLengths}
use Rattle.kinds.specs.Reasons.{wrong_length}
use Rattle.kinds.specs.Refusal.{said, given, values_of}
use Rattle.kinds.specs.declared.Refusal.{Refusal}

abbrev pub named : Option Refusal → List ℕ → List ℕ
named none l = l
named (some x) l = take 1 l ++ over_front (values_of x) (drop 1 l)

pub record Besides (before : List Reason) (l : List (ℕ × Wanted)) (r : ℕ) (T K : Type 0) : Type 0 where
  pub right : RightLengths l → T
  pub wrong : ¬ RightLengths l → (r ≡ given (first_of (before ++ (wrong_length l ∷ [])))) × K

pub record AnswersAs (before : List Reason) (T : Result Unit Refusal → Type 0) (K : Type 0) (l l' : List ℕ) (r : ℕ) : Type 0 where
  pub tool : Besides before ((length l, exactly 3) ∷ []) r ((a : Result Unit Refusal) × T a × (r ≡ given (said a)) × (l' ≡ named (said a) l)) (K × (l' ≡ l))
