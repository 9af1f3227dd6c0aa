-- What is asked of the maps f and g and the order P of a frame, whether or not they come from a sheet.
--   BanksApart n k f         no two words of a tick have one bank
--   FitsOrder n k P f g      every cell is below 2^n, and f gives no two words one cell; banks are apart on either side; P is a bijection of words and places, and for the place P i the cell of word i is read
use Prim.Native.Nat.{ℕ, ◌^◌, ◌<◌}
use mathlib.Core.Path.{◌≡◌}
use mathlib.Core.Logic.{◌≢◌}
use Rattle.kinds.specs.Frame.{ticks, word_at, bank_of}
use Rattle.span.specs.Maps.{Injective, Bijection}

abbrev pub BanksApart : ℕ → ℕ → (ℕ → ℕ) → Type 0
BanksApart n k f = (c p q : ℕ) → c < ticks n k → p < q → q < 2 ^ k → bank_of k (f (word_at k c p)) ≢ bank_of k (f (word_at k c q))

pub record FitsOrder (n k : ℕ) (P f g : ℕ → ℕ) : Type 0 where
  pub write_cells : (i : ℕ) → f i < 2 ^ n
  pub read_cells : (j : ℕ) → g j < 2 ^ n
  pub write_banks : BanksApart n k f
  pub read_banks : BanksApart n k g
  pub own_cells : Injective f (2 ^ n)
  pub places : Bijection P (2 ^ n)
  pub in_order : (i : ℕ) → i < 2 ^ n → f i ≡ g (P i)
