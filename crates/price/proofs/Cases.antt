-- The price on two sheets: that of bit reversal at n 3, k 1, and one with eight stages on each side, of five ones each.
use mathlib.Core.Path.{◌≡◌, refl}
use mathlib.Core.List.{[], ◌∷◌, ◌++◌}
use lib.Count.{ones}
use Rattle.kinds.specs.Edition.{edition1}
use Rattle.sheet.specs.Sheet.{stages_in}
use Rattle.sheet.proofs.Cases.{reversal, staged}
use Rattle.price.specs.Price.{total, price_of}

prices : (price_of edition1 3 1 reversal ≡ 2 ∷ 4 ∷ 0 ∷ []) × (price_of edition1 10 5 (staged 8 ++ staged 8) ≡ 256 ∷ 512 ∷ 64 ∷ [])
unfolding stages_in total ones
prices = (refl, refl)
