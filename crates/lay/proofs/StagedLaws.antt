-- Stages that are handed on, and sides that are laid out.
--   new_shows, paired_shows       no stages, and stages that were paired, are no more than a side may have
--   lays_unique     a side is laid out in one way
use Prim.Native.Nat.{ℕ, ◌≤◌}
use mathlib.Core.Path.{◌≡◌, sym, ◌∙◌}
use mathlib.Core.List.{List, []}
use native.Mathlib.Omega.{arith}
use native.Mathlib.Decide.{ℕ_discrete}
use lib.ListN.{length, take, length-take}
use Rattle.kinds.specs.Edition.{edition1, side_places}
use Rattle.sheet.specs.declared.Stage.{Stage}
use Rattle.lay.specs.Staged.{pairs, Lays}

pub new_shows : length {A = Stage} [] ≤ edition1.most_stages
new_shows = omega arith

pub paired_shows : (ds cs : List ℕ) → length (take edition1.most_stages (pairs ds cs)) ≤ edition1.most_stages
paired_shows ds cs = omega (arith, length-take edition1.most_stages (pairs ds cs))

pub lays_unique : {A W : List ℕ} {ss : List Stage} {l a b : List ℕ} → Lays A W ss l a → Lays A W ss l b → a ≡ b
lays_unique {l = l} x y = elim (ℕ_discrete (length l) (side_places edition1)) [
  | yes whole ↦ x.laid whole ∙ sym (y.laid whole)
  | no part ↦ x.no_side part ∙ sym (y.no_side part)
]
