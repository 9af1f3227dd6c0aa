-- The text that is listed for an order (01, 'The order card').
--   stage_line name ss      "stage count, then each direction and control"
--   tick_line k l c         tick c of the frame l: its number, and its words, by port
--   listing n k C          what is listed for the order with the columns C: "then each tick out"
use Rattle.std.specs.Prelude.{ℕ, length}
use mathlib.Core.List.{List, [], ◌∷◌, ◌++◌, flatten}
use Rattle.kinds.specs.Frame.{ticks, in_order}
use Rattle.text.specs.Decimal.{codes, decimal}
use Rattle.sheet.specs.Sheet.{flat}
use Rattle.sheet.specs.declared.Stage.{Stage}
use Rattle.promise.specs.Series.{words_of_tick}
use Rattle.construction.specs.Planned.{planned_read, planned_write}
use Rattle.trial.specs.Trial.{words_as_they_leave}
use Rattle.lines.specs.Line.{line}

abbrev pub stage_line : List ℕ → List Stage → List ℕ
stage_line name ss = line name (length ss ∷ flat ss)

abbrev pub tick_line : ℕ → List ℕ → ℕ → List ℕ
tick_line k l c = line (decimal c ++ codes ":") (words_of_tick k l c)

abbrev pub listing : ℕ → ℕ → List ℕ → List ℕ
listing n k C =
    line (codes "order") (n ∷ k ∷ []) ++ (stage_line (codes "write") (planned_write n k C).stages ++ (stage_line (codes "read") (planned_read n k C).stages
    ++ flatten (in_order (ticks n k) (tick_line k (words_as_they_leave n C)))))
