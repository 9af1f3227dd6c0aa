-- Decisions of what this crate's meanings state. Each carries its proof, so none has to be read.
--   fitting? writes came reads out     whether there are as many words as cells to be written, and a place of the out buffer for each that is read
use Rattle.std.specs.Prelude.{ℕ}
use Rattle.std.proofs.Math.Decide.{dec_le, ℕ_discrete}
use Rattle.kinds.specs.Decided.{both, through}
use Rattle.memory.specs.Memory.{Fitting}

unfoldable pub fitting? : (writes came reads out : ℕ) → Dec (Fitting writes came reads out)
unfolding dec_le ℕ_discrete
fitting? writes came reads out =
    through (λ (w, r). record { a_word_each = w; room = r }, λ f. (f.a_word_each, f.room)) (both (ℕ_discrete came writes) (dec_le reads out))
