-- Decisions of the meanings beside them. Each carries its proof, so none has to be read.
--   invertible? k W                      whether a wiring is invertible
--   share_cell? n f, differ? n f g P      whether two words share a cell, and whether M differs from N P
use Rattle.std.specs.Prelude.{ℕ, ◌^◌}
use Rattle.std.proofs.Math.Decide.{ℕ_discrete}
use Rattle.kinds.specs.Decided.{opposite, some_below}
use Rattle.bits.specs.Image.{image}
use Rattle.span.specs.Decisions.{bijection?}
use Rattle.sheet.specs.Sheet.{Side}
use Rattle.realise.specs.Agreement.{Invertible, ShareCell, Differ}

abbrev pub invertible? : (k : ℕ) (W : Side) → Dec (Invertible k W)
invertible? k W = bijection? (image W.wiring) (2 ^ k)

abbrev pub share_cell? : (n : ℕ) (f : ℕ → ℕ) → Dec (ShareCell n f)
share_cell? n f = some_below (λ j. some_below (λ i. ℕ_discrete (f i) (f j)) j) (2 ^ n)

abbrev pub differ? : (n : ℕ) (f g P : ℕ → ℕ) → Dec (Differ n f g P)
differ? n f g P = some_below (λ i. opposite (ℕ_discrete (f i) (g (P i)))) (2 ^ n)
