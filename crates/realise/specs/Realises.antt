-- When none of 6 to 9 applies to a sheet and an order (01, 'When a tool says no').
--   not_invertible x k W      6 and 7: write, or read, wiring not invertible; x is the refusal
--   shared_cell n f           8: M not invertible, two words share a cell
--   differs n f g P          9: M differs from N P
--   map_table e n k C s       6 to 9, of the sheet s and the order C
--   Realises e n k C s       none of them applies
use Rattle.std.specs.Prelude.{ℕ, List, [], ◌∷◌}
use Rattle.kinds.specs.Edition.{Edition}
use Rattle.kinds.specs.First.{Reason, EachReason, unless}
use Rattle.kinds.specs.declared.Refusal.{Refusal}
use Rattle.kinds.specs.declared.Refusal.TheVariants.{WriteWiring, ReadWiring, SharedCell, Differs}
use Rattle.order.specs.Order.{place}
use Rattle.sheet.specs.Sheet.{Side, write_side, read_side}
use Rattle.switches.specs.Cells.{M, N}
use Rattle.realise.specs.Agreement.{Invertible, ShareCell, Differ}
use Rattle.realise.specs.Decisions.{invertible?, share_cell?, differ?}

abbrev pub not_invertible : Refusal → ℕ → Side → Reason
not_invertible x k W = unless x (Invertible k W) (invertible? k W)

abbrev pub shared_cell : ℕ → (ℕ → ℕ) → Reason
shared_cell n f = record { refusal = SharedCell; applies = ShareCell n f; decided = share_cell? n f }

abbrev pub differs : ℕ → (ℕ → ℕ) → (ℕ → ℕ) → (ℕ → ℕ) → Reason
differs n f g P = record { refusal = Differs; applies = Differ n f g P; decided = differ? n f g P }

abbrev pub map_table : Edition → ℕ → ℕ → List ℕ → List ℕ → List Reason
map_table e n k C s =
    not_invertible WriteWiring k (write_side e n k s) ∷ not_invertible ReadWiring k (read_side e n k s)
    ∷ shared_cell n (M e n k s) ∷ differs n (M e n k s) (N e n k s) (place C) ∷ []

pub record Realises (e : Edition) (n k : ℕ) (C s : List ℕ) : Type 0 where
  pub none_applies : EachReason (λ r. ¬ r.applies) (map_table e n k C s)
