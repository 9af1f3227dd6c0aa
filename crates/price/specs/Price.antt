-- What a sheet costs (01, 'Price', with R-4).
--   total f ss           the sum of f over the stages ss
--   switches k s         "each stage has 2^(k-1) two-by-two switches"
--   multiplexers k s     "each 2-to-2 switch as two 2-to-1 multiplexers" (R-4)
--   xor_gates_of s           "the ones in its control number, less one"
--   all_stages e n k s    the stages of both sides of the sheet s
--   price_of e n k s      its price: "three sums over both sides: switches, multiplexers, xor gates"
--   sums_of a             the numbers that the price tool's answer a carries: the three sums, or those of the refusal
--   Prices e n k s a     the price tool: a is the lowest of 1, 2 and 5 that applies, and carries the price where none does
use Rattle.std.specs.Prelude.{ℕ, ◌+◌, ◌-◌, ◌*◌, ◌^◌, ◌≡◌, List, [], ◌∷◌, ◌++◌, Result, Ok, Err}
use Rattle.std.specs.Int.Count.{ones}
use Rattle.kinds.specs.Answers.{Answers}
use Rattle.kinds.specs.Edition.{Edition}
use Rattle.kinds.specs.Refusal.{said, values_of}
use Rattle.kinds.specs.declared.Refusal.{Refusal}
use Rattle.sheet.specs.Sheet.{write_side, read_side}
use Rattle.sheet.specs.declared.Stage.{Stage}
use Rattle.sheet.specs.Table.{sheet_table}
use Rattle.price.specs.declared.Sums.{Sums}

unfoldable pub total : (Stage → ℕ) → List Stage → ℕ
total f [] = 0
total f (s ∷ ss) = f s + total f ss

abbrev pub switches : ℕ → Stage → ℕ
switches k s = 2 ^ (k - 1)

abbrev pub multiplexers : ℕ → Stage → ℕ
multiplexers k s = 2 * switches k s

abbrev pub xor_gates_of : Stage → ℕ
xor_gates_of s = ones s.control - 1

abbrev pub all_stages : Edition → ℕ → ℕ → List ℕ → List Stage
all_stages e n k s = (write_side e n k s).stages ++ (read_side e n k s).stages

abbrev pub price_of : Edition → ℕ → ℕ → List ℕ → List ℕ
price_of e n k s =
    let both = all_stages e n k s in
    total (switches k) both ∷ total (multiplexers k) both ∷ total xor_gates_of both ∷ []

abbrev pub sums_of : Result Sums Refusal → List ℕ
sums_of (Ok p) = p.switches ∷ p.multiplexers ∷ p.gates ∷ []
sums_of (Err x) = values_of x

abbrev pub Prices : Edition → ℕ → ℕ → List ℕ → Result Sums Refusal → Type 0
Prices e n k s a = Answers (sheet_table e n k s []) (said a) (sums_of a ≡ price_of e n k s) Unit
