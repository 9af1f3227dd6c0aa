-- The run over a series S of calls, with its answers, and when it is right by them: "for demand 3 a call of the series that is answered 11 to 14 counts as the clash, overwriting or empty read it names".
--   stand_after o, seen_of o        of what comes of a call: where the run stands then, and what is seen
-- Where comes j y is what comes of call j, made from y:
--   stands comes x j          where a run that starts at x stands before call j
--   outcome_at comes x j       what comes of call j then
--   seen_at comes x j          and what is seen of it
-- The calls that can be made of a series S:
--   called n k f g S j y      call j, with 11 to 14 refused, where f F i is the cell to which word i of frame F is written, and g F q the cell that is read for its place q
--   called_on e n k s S        the calls with a sheet, which has M and N for every frame
--   fresh_stand n k            the fresh stand over zeros
-- When it is right:
--   RightAnswered e n k C s   the run of the sheet, with 11 to 14 refused, is right by what is seen
use Rattle.std.specs.Prelude.{ℕ, ◌+◌, ◌^◌, List, [], replicate}
use Rattle.kinds.specs.Edition.{Edition}
use Rattle.kinds.specs.Frame.{ticks}
use Rattle.order.specs.Order.{place}
use Rattle.switches.specs.Cells.{M, N}
use Rattle.call.specs.Call.{Outcome, call}
use Rattle.promise.specs.Series.{Series, call_at}
use Rattle.promise.specs.Seen.{Seen, RightOver}
use Rattle.promise.specs.Run.{Stand, Fresh, standing, incoming, outgoing}

abbrev pub stand_after : Outcome → Stand
stand_after o = record { state = o.state; memory = o.memory }

abbrev pub seen_of : Outcome → Seen
seen_of o = record { refusal = o.refusal; handed = o.handed; leaving = o.leaving }

module _ (comes : ℕ → Stand → Outcome) (x : Stand) (j : ℕ) where
  abbrev pub stands : Stand
  stands = standing (λ i y. stand_after (comes i y)) x j

  abbrev pub outcome_at : Outcome
  outcome_at = comes j stands

  abbrev pub seen_at : Seen
  seen_at = seen_of outcome_at

abbrev pub called : ℕ → ℕ → (ℕ → ℕ → ℕ) → (ℕ → ℕ → ℕ) → List (List ℕ) → ℕ → Stand → Outcome
called n k f g S j y = call [] n k (f (incoming n S j)) (g (outgoing n S j)) y.state (call_at S j) y.memory

abbrev pub called_on : Edition → ℕ → ℕ → List ℕ → List (List ℕ) → ℕ → Stand → Outcome
called_on e n k s S = called n k (λ F. M e n k s) (λ F. N e n k s) S

abbrev pub fresh_stand : ℕ → ℕ → Stand
fresh_stand n k = let zeros : List ℕ = replicate (2 ^ (n + 1)) 0 in record { state = record { a = 0; h = 0; r = ticks n k }; memory = record { words = zeros; marks = zeros } }

pub record RightAnswered (e : Edition) (n k : ℕ) (C s : List ℕ) : Type 0 where
  pub over : (x : Stand) (S : List (List ℕ)) → Fresh n k x → Series k S → RightOver 0 n k (λ F. place C) (seen_at (called_on e n k s S) x) S
