use Rattle.std.proofs.Common.{ℕ, ◌≡◌, false, refl, arith}
use lib.Dec.{eqb}
use Rattle.kinds.specs.Refusal.{number_of}
use Rattle.kinds.specs.declared.Refusal.{Refusal}
use Rattle.kinds.specs.declared.Refusal.TheVariants.{Sizes, Length, TooLarge, Dependent, Layout, WriteWiring, ReadWiring, SharedCell, Differs, State, WriteClash, Overwrite, ReadClash, EmptyRead, Card}
use Rattle.text.specs.Decimal.{codes}
use Rattle.list.proofs.ListLaws.{one_short, prints_by}
use Rattle.list.proofs.put_refusal.Goals as goal

-- the other refusals have other numbers
others_not_4 : (x : Refusal) → ((c m : ℕ) → ¬ (x ≡ Dependent c m)) → eqb (number_of x) 4 ≡ false
others_not_4 Sizes other = refl
others_not_4 Length other = refl
others_not_4 TooLarge other = refl
others_not_4 (Dependent c m) other = absurd (other c m refl)
others_not_4 Layout other = refl
others_not_4 WriteWiring other = refl
others_not_4 ReadWiring other = refl
others_not_4 SharedCell other = refl
others_not_4 Differs other = refl
others_not_4 State other = refl
others_not_4 (WriteClash p q) other = refl
others_not_4 Overwrite other = refl
others_not_4 (ReadClash p q) other = refl
others_not_4 EmptyRead other = refl
others_not_4 Card other = refl

pub returns-in_default : goal.returns-in_default
unfolding codes
returns-in_default c =
    let short = one_short (codes "refused") c.into.result (omega arith) in
    rw (others_not_4 c.args.refusal c.in_default.not-Dependent)
    (rw c.into.ensures at (prints_by (c.put_line.ensures.written (omega (arith, short))) (omega (arith, short))))
