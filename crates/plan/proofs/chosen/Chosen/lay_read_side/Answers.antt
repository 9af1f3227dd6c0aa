-- The address columns are the units from k on, the wiring columns the units.
use Rattle.std.proofs.Common.{ℕ, ◌^◌, ◌≤◌, ◌≡◌, min, List, take, refl, ap, ◌∙◌, arith, div-one, take_all, take_at}
use Rattle.kinds.specs.Edition.{edition1}
use Rattle.kinds.specs.Frame.{tick_of}
use Rattle.bits.specs.Image.{columns}
use Rattle.bits.specs.Padded.{array_width, padded}
use Rattle.bits.proofs.ImageLaws.{columns_length, columns_same}
use Rattle.sheet.specs.Sheet.{laid_out}
use Rattle.sheet.proofs.LayLaws.{same_side}
use Rattle.plan.proofs.chosen.Chosen.lay_read_side.Goals as goal

-- m columns out of an array that has them, laid where there are places for l
units_laid : (m l : ℕ) (f : ℕ → ℕ) {a : List ℕ} → a ≡ padded (columns (min m array_width) f) → m ≤ l → l ≤ array_width → take l (take m a) ≡ columns m f
units_laid m l f is few room =
    ap (λ (r : List ℕ). take l (take m r)) (is ∙ ap (λ (x : ℕ). padded (columns x f)) {x = min m array_width} {y = m} (omega arith))
    ∙ ap (take l) (take_at (columns m f) _ m (columns_length m f))
    ∙ take_all l (columns m f) (omega (arith, columns_length m f))

pub returns : goal.returns
returns c =
    let n : ℕ = c.args.self.now.sizes.n in
    let k : ℕ = c.args.self.now.sizes.k in
    c.lay_out.ensures.laid c.requires
    ∙ ap (laid_out edition1) (same_side {c = c.args.self.now.read.now.items}
    (units_laid n 10 (tick_of k) c.unit_columns-addresses.ensures c.args.self.now.sizes.sized.frame.most (omega arith))
    (units_laid k 5 (tick_of 0) c.unit_columns-wiring.ensures (omega arith) (omega arith) ∙ columns_same k (tick_of 0) (λ p. p) (λ j h. div-one (2 ^ j)))
    refl)
