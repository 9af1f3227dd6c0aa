-- Stages that are made, and sides that are laid out.
--   pairs ds cs          the stages with the directions ds and the controls cs, as long as there are both
--   Lays A W ss l l'     where l is all places of a side, l' is a side with the address columns A and the wiring columns W, of each as many as it has places for, and
--                        the stages ss, no more than a side may have; else l' is l
use Rattle.std.specs.Prelude.{ℕ, ◌≡◌, List, [], ◌∷◌, length, take}
use Rattle.kinds.specs.Edition.{edition1, side_places}
use Rattle.sheet.specs.Sheet.{laid_out}
use Rattle.sheet.specs.declared.Stage.{Stage}

unfoldable pub pairs : List ℕ → List ℕ → List Stage
pairs [] cs = []
pairs (d ∷ ds) [] = []
pairs (d ∷ ds) (c ∷ cs) = record { direction = d; control = c } ∷ pairs ds cs

pub record Lays (A W : List ℕ) (ss : List Stage) (l l' : List ℕ) : Type 0 where
  pub laid : length l ≡ side_places edition1 → l' ≡ laid_out edition1 (record { addresses = take edition1.most_n A; wiring = take edition1.most_k W; stages = ss })
  pub no_side : ¬ (length l ≡ side_places edition1) → l' ≡ l
