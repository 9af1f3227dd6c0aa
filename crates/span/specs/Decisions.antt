-- Decisions of what this crate's meanings state. Each carries its proof, so none has to be read.
--   injective? f a, onto? f a b, bijection? f n      whether f is injective, onto, a bijection
--   sum_of? C v         whether v is a sum of C, with the least mask that selects it
--   independent? C     whether C is independent
use Rattle.std.specs.Prelude.{ℕ, ◌^◌, List, length}
use Rattle.std.proofs.Math.Decide.{ℕ_discrete, dec_lt}
use Rattle.kinds.specs.Decided.{both, through, implied, some_below, each_below}
use Rattle.bits.specs.Image.{image}
use Rattle.span.specs.Maps.{Injective, Onto, Bijection}
use Rattle.span.specs.Sums.{SumOf, Independent}

abbrev pub injective? : (f : ℕ → ℕ) (a : ℕ) → Dec (Injective f a)
injective? f a =
    through (λ each i j h k e. each i h j k e, λ inj i h j k e. inj i j h k e)
    (each_below (λ i. each_below (λ j. implied (ℕ_discrete (f i) (f j)) (ℕ_discrete i j)) a) a)

abbrev pub onto? : (f : ℕ → ℕ) (a b : ℕ) → Dec (Onto f a b)
onto? f a b = each_below (λ y. some_below (λ x. ℕ_discrete (f x) y) a) b

unfoldable pub bijection? : (f : ℕ → ℕ) (n : ℕ) → Dec (Bijection f n)
bijection? f n =
    through (λ (t, (i, o)). record { into = t; injective = i; onto = o }, λ b. (b.into, (b.injective, b.onto)))
    (both (each_below (λ i. dec_lt (f i) n) n) (both (injective? f n) (onto? f n n)))

unfoldable pub sum_of? : (cs : List ℕ) (v : ℕ) → Dec (SumOf cs v)
unfolding some_below
sum_of? cs v =
    through (λ (m, h, e). record { selected = m; below = h; sum = e }, λ s. (s.selected, s.below, s.sum))
    (some_below (λ m. ℕ_discrete (image cs m) v) (2 ^ length cs))

unfoldable pub independent? : (cs : List ℕ) → Dec (Independent cs)
unfolding each_below
independent? cs = each_below (λ m. implied (ℕ_discrete (image cs m) 0) (ℕ_discrete m 0)) (2 ^ length cs)
