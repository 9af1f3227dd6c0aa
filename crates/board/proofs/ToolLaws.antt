-- What follows from the contracts of the C names alone.
--   ticks_as_unique     the run has one number, and leaves one of each buffer
--   prices_as_unique    and so has the price
-- With `plans_unique`, `inspects_unique`, `moves_unique`, `inverts_unique` and `lists_unique` told's `answers_as_unique` says it of the others.
use Prim.Native.Nat.{ℕ}
use mathlib.Core.Path.{◌≡◌, sym, ap, ◌∙◌}
use mathlib.Core.List.{List}
use Rattle.kinds.specs.Edition.{Edition}
use Rattle.std.specs.Prelude.{Result}
use Rattle.kinds.specs.Refusal.{said, given}
use Rattle.kinds.specs.declared.Refusal.{Refusal}
use Rattle.price.specs.declared.Sums.{Sums}
use Rattle.price.proofs.PriceLaws.{prices_unique}
use Rattle.memory.specs.Memory.{Memory}
use Rattle.call.specs.Tool.{After, state_after}
use Rattle.call.specs.declared.Ran.{Ran}
use Rattle.run.proofs.ToolLaws.{ticks_unique}
use Rattle.told.proofs.BesidesLaws.{besides_unique}
use Rattle.board.specs.Names.{state_in, state_out, said_after, Buffers, lent_in, RunsAs, sums_after, PricesAs}

same_buffers : {st sv : List ℕ} {m v : Memory} {o u l x : List ℕ} → st ≡ sv → m ≡ v → o ≡ u → l ≡ x
    → ◌≡◌ {A = Buffers} (record { state = st; memory = m; out = o; said = l }) (record { state = sv; memory = v; out = u; said = x })
same_buffers state memory out said = cc

pub ticks_as_unique : {e : Edition} {n k : ℕ} {s ws : List ℕ} {b x y : Buffers} {r q : ℕ} → RunsAs e n k s ws b x r → RunsAs e n k s ws b y q → (r ≡ q) × (x ≡ y)
ticks_as_unique {e} {n} {k} {s} {ws} {b} f g =
    besides_unique
    (λ (d, t, told) (c, w, also).
    let left = ticks_unique e n k s (lent_in ws b) t w in
    let same = ap (λ (l : After). l.answer) left in (
      told.number ∙ ap (λ (z : Result Ran Refusal). given (said z)) same ∙ sym also.number,
      same_buffers (told.state ∙ ap (λ (z : Result Ran Refusal). state_out (state_after (state_in b.state) z)) same ∙ sym also.state) (ap (λ (l : After). l.memory) left)
          (ap (λ (l : After). l.out) left) (told.said ∙ ap (λ (z : Result Ran Refusal). said_after z b.said) same ∙ sym also.said),
    ))
    (λ kept also. kept ∙ sym also)
    f.tool
    g.tool

pub prices_as_unique : {e : Edition} {n k : ℕ} {s l a b : List ℕ} {r q : ℕ} → PricesAs e n k s l a r → PricesAs e n k s l b q → (r ≡ q) × (a ≡ b)
prices_as_unique {l = l} f g =
    besides_unique
    (λ (d, p, r, x) (c, o, q, y).
    let same = prices_unique d c p o in
    (r ∙ ap (λ (z : Result Sums Refusal). given (said z)) same ∙ sym q, x ∙ ap (λ (z : Result Sums Refusal). sums_after z l) same ∙ sym y))
    (λ x y. x ∙ sym y)
    f.tool
    g.tool
