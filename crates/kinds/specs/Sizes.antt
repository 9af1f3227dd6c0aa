-- Sizes that were found to be within those of the edition.
--   AreSizes n k r     where r is done, it gives n and k
use Rattle.std.specs.Prelude.{ℕ, ◌≡◌, Result, IfOk}
use Rattle.kinds.specs.declared.Refusal.{Refusal}
use Rattle.kinds.specs.declared.sizes.Sizes.{Sizes}

abbrev pub AreSizes : ℕ → ℕ → Result Sizes Refusal → Type 0
AreSizes n k r = IfOk r (λ s. (s.n ≡ n) × (s.k ≡ k))
