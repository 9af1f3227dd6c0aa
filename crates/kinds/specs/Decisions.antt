-- Decisions of what this crate's meanings state. Each carries its proof, so none has to be read.
--   sized_n? e n         whether n is within the sizes
--   sized? e n k        whether n and k are
--   is_length? l w       whether the length l is as wanted
--   right_lengths? l     whether each lent length of l is as wanted beside it
use Rattle.std.specs.Prelude.{ℕ, min, List, [], ◌∷◌}
use Rattle.std.proofs.Math.Decide.{dec_le, ℕ_discrete}
use Rattle.kinds.specs.Decided.{both, either, through}
use Rattle.kinds.specs.Edition.{Edition, SizedN, Sized}
use Rattle.kinds.specs.Lengths.{Wanted, exactly, at_least, or_none, IsLength, RightLengths}

unfoldable pub sized_n? : (e : Edition) (n : ℕ) → Dec (SizedN e n)
unfolding dec_le
sized_n? e n =
    through (λ (l, m). record { least = l; most = m }, λ s. (s.least, s.most)) (both (dec_le 1 n) (dec_le n e.most_n))

unfoldable pub sized? : (e : Edition) (n k : ℕ) → Dec (Sized e n k)
unfolding sized_n? dec_le
sized? e n k =
    through (λ (f, (l, m)). record { frame = f; least = l; most = m }, λ s. (s.frame, (s.least, s.most)))
    (both (sized_n? e n) (both (dec_le 1 k) (dec_le k (min n e.most_k))))

unfoldable pub is_length? : (l : ℕ) (w : Wanted) → Dec (IsLength l w)
unfolding ℕ_discrete dec_le
is_length? l (exactly m) = ℕ_discrete l m
is_length? l (at_least m) = dec_le m l
is_length? l (or_none m) = either (ℕ_discrete l m) (ℕ_discrete l 0)

unfoldable pub right_lengths? : (l : List (ℕ × Wanted)) → Dec (RightLengths l)
unfolding is_length?
right_lengths? [] = yes tt
right_lengths? ((lent, wanted) ∷ rest) = both (is_length? lent wanted) (right_lengths? rest)
