-- When a sheet realises an order, its maps fit the run.
--   shares_invertible   "M not invertible" and "two words share a cell" are one thing
--   apart_wired         a side whose banks are apart has an invertible wiring
--   realises_fits         the maps of a sheet that realises an order fit the run under it
--   fits_realises         and a sheet whose maps do realises it
use Prim.Native.Nat.{ℕ, ◌^◌, ◌≤◌}
use mathlib.Core.Path.{sym, ◌∙◌}
use mathlib.Core.List.{List}
use mathlib.Core.Logic.{◌↔◌}
use native.Mathlib.Decide.{ℕ_discrete}
use native.Mathlib.Omega.{arith}
use lib.Pow.{pow_pos}
use Rattle.kinds.specs.Edition.{Edition}
use Rattle.kinds.specs.Frame.{tick_bits}
use Rattle.kinds.proofs.TruthLaws.{stable}
use Rattle.bits.specs.Image.{image}
use Rattle.bits.proofs.ImageLaws.{image_lt}
use Rattle.span.specs.Maps.{Into, Injective, Bijection}
use Rattle.span.specs.Decisions.{bijection?}
use Rattle.span.proofs.Counting.{apart_injective, injective_bijection}
use Rattle.order.specs.Order.{place, Order}
use Rattle.order.proofs.OrderLaws.{order_bijection}
use Rattle.sheet.specs.Sheet.{Side, write_side, read_side}
use Rattle.sheet.specs.Layout.{InRange, WellFormed}
use Rattle.switches.specs.Cells.{cell_of, M, N}
use Rattle.switches.proofs.CellLaws.{same_bank, word_bank, wiring_part, cell_into}
use Rattle.realise.specs.Agreement.{Invertible, ShareCell}
use Rattle.realise.specs.Realises.{Realises}
use Rattle.realise.proofs.Fits.{BanksApart, FitsOrder}

module _ (n : ℕ) (f : ℕ → ℕ) where
  own_injective : ¬ ShareCell n f → Injective f (2 ^ n)
  own_injective own = apart_injective (λ i j below l same. own (j, l, (i, below, same)))

  injective_own : Injective f (2 ^ n) → ¬ ShareCell n f
  injective_own injective (j, l, (i, below, same)) = omega (arith, injective i j (omega arith) l same)

  pub shares_invertible : Into f (2 ^ n) (2 ^ n) → Bijection f (2 ^ n) ↔ (¬ ShareCell n f)
  shares_invertible into = (λ b. injective_own b.injective, λ own. injective_bijection into (own_injective own))

module _ {n k : ℕ} {S : Side} (used : InRange n k S) where
  wired_apart : Invertible k S → BanksApart n k (cell_of k S)
  wired_apart wired c p q tick below h same =
      omega (arith, wired.injective p q (omega arith) h ((same_bank S c p q).0 (sym (word_bank used c p (omega arith)) ∙ same ∙ word_bank used c q h)))

  pub apart_wired : BanksApart n k (cell_of k S) → Invertible k S
  apart_wired apart =
      injective_bijection (λ p h. image_lt k S.wiring used.wiring p)
      (apart_injective (λ p q below h same. apart 0 p q (pow_pos (tick_bits n k)) below h (wiring_part used p (omega arith) ∙ same ∙ sym (wiring_part used q h))))

module _ {e : Edition} {n k : ℕ} {C s : List ℕ} where
  pub realises_fits : k ≤ n → Order n C → WellFormed e n k s → Realises e n k C s → FitsOrder n k (place C) (M e n k s) (N e n k s)
  realises_fits within order formed ok =
      let (write, (read, (own, (same, _)))) = ok.none_applies in
      record {
        write_cells = cell_into formed.write.used within;
        read_cells = cell_into formed.read.used within;
        write_banks = wired_apart formed.write.used (stable (bijection? (image (write_side e n k s).wiring) (2 ^ k)) write);
        read_banks = wired_apart formed.read.used (stable (bijection? (image (read_side e n k s).wiring) (2 ^ k)) read);
        own_cells = own_injective n (M e n k s) own;
        places = order_bijection order;
        in_order = λ i h. stable (ℕ_discrete (M e n k s i) (N e n k s (place C i))) (λ differ. same (i, h, differ));
      }

  pub fits_realises : WellFormed e n k s → FitsOrder n k (place C) (M e n k s) (N e n k s) → Realises e n k C s
  fits_realises formed fits = record {
    none_applies = (
      λ wrong. wrong (apart_wired formed.write.used fits.write_banks),
      (
        λ wrong. wrong (apart_wired formed.read.used fits.read_banks),
        (injective_own n (M e n k s) fits.own_cells, (λ (i, h, differ). differ (fits.in_order i h), tt)),
      ),
    );
  }
