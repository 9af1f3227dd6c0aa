-- The conditions of 6 to 9 are told by columns.
--   wiring_tells      6 and 7: a wiring is invertible exactly when its columns are independent
--   cells_tell        8: two words share a cell exactly when the columns of M are not independent
--   columns_tell      9: M differs from N P exactly when they do not agree on the words 2^j
use Prim.Native.Nat.{ℕ, ◌^◌, ◌<◌}
use mathlib.Core.Path.{◌≡◌, ap, ◌∙◌}
use mathlib.Core.List.{List}
use mathlib.Core.Logic.Iff
use mathlib.Core.Logic.{◌↔◌}
use native.Mathlib.Decide.{ℕ_discrete}
use lib.Pow.{pow-lt}
use Rattle.kinds.proofs.TruthLaws.{stable}
use Rattle.bits.specs.Image.{Linear}
use Rattle.bits.proofs.ImageLaws.{image_xor, image_unit, linear_agree, columns_at}
use Rattle.span.specs.Sums.{Independent}
use Rattle.span.proofs.SumLaws.{independent_bijection, bijection_independent}
use Rattle.order.specs.Order.{place}
use Rattle.sheet.specs.Sheet.{Side}
use Rattle.switches.specs.Cells.{cell_of, cell_columns}
use Rattle.maps.specs.Opened.{Shows}
use Rattle.maps.specs.declared.OpenSide.{OpenSide}
use Rattle.switches.proofs.CellLaws.{cell_into, cell_linear, cell_bijection}
use Rattle.realise.specs.Agreement.{Invertible, ShareCell, Differ}
use Rattle.realise.proofs.RealiseLaws.{shares_invertible}
use Rattle.inspect.specs.Inside.{AgreeAt, Agree}

module _ {n k : ℕ} {o : OpenSide} {W : Side} (shows : Shows n k o W) where
  pub wiring_tells : Invertible k W ↔ Independent W.wiring
  wiring_tells = (
    bijection_independent k W.wiring shows.wiring,
    independent_bijection k W.wiring shows.wiring shows.used.wiring,
  )

  pub cells_tell : (¬ ShareCell n (cell_of k W)) ↔ Independent (cell_columns n k W)
  cells_tell =
      let into = cell_into shows.used shows.ports in
      let own = shares_invertible n (cell_of k W) (λ i h. into i) in
      let columns = cell_bijection shows.used shows.ports in
      Iff.trans (Iff.symm own) columns

module _ {n k : ℕ} {o p : OpenSide} {W R : Side} (write : Shows n k o W) (read : Shows n k p R) (C : List ℕ) where
  abbrev after : ℕ → ℕ
  after i = cell_of k R (place C i)

  after_linear : Linear after
  after_linear x y = ap (cell_of k R) (image_xor C x y) ∙ cell_linear read.used (place C x) (place C y)

  at_unit : (j : ℕ) → j < n → AgreeAt k C (cell_columns n k W) R j ↔ (cell_of k W (2 ^ j) ≡ after (2 ^ j))
  at_unit j h = rw (columns_at n (cell_of k W) j h) (rw (image_unit C j) Iff.rfl)

  pub columns_tell : (¬ Differ n (cell_of k W) (cell_of k R) (place C)) ↔ Agree n k C (cell_columns n k W) R
  columns_tell = (
    λ same j h. (at_unit j h).1 (stable (ℕ_discrete (cell_of k W (2 ^ j)) (after (2 ^ j))) (λ differ. same (2 ^ j, pow-lt h, differ))),
    λ agree (i, h, differ).
        differ (linear_agree n (cell_of k W) after (cell_linear write.used) after_linear (λ j l. (at_unit j l).0 (agree j l)) i h),
  )
