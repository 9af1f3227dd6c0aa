-- Laws of the price.
--   total_append    a sum over stages and then others is the two sums
--   total_none      a sum over no stages is 0
--   total_more      one stage more adds what it counts
--   total_const     where every stage counts the same, the sum is a product
--   gates_few       stages with controls of 16 bits have at most 15 xor gates each
--   controlled      the stages of a side that keeps the layout have controls that are not 0, and room
--   prices_unique   the price tool has one answer
use Prim.Native.Nat.{ℕ, zero, suc, ◌+◌, ◌*◌, ◌^◌, ◌≤◌, ◌<◌}
use mathlib.Core.Path.{◌≡◌, refl, ap, ◌∙◌, sym}
use mathlib.Core.List.{List, [], ◌∷◌, ◌++◌}
use native.Mathlib.Numerals.{add-one}
use native.Mathlib.Nat.{suc-mul}
use native.Mathlib.Omega.{arith}
use lib.ListN.{length, get_or, length-drop}
use lib.Count.{ones-le}
use Rattle.std.specs.Prelude.{Result, Ok, Err}
use Rattle.kinds.specs.Edition.{Edition, edition1, side_places}
use Rattle.sheet.specs.Sheet.{count_place, stage_places, stage_at, stages_in}
use Rattle.sheet.specs.declared.Stage.{Stage}
use Rattle.sheet.specs.Layout.{FormedSide}
use Rattle.price.specs.Price.{total, xor_gates_of, Prices}
use Rattle.price.specs.Inside.{Controlled}
use Rattle.kinds.specs.declared.Refusal.{Refusal}
use Rattle.kinds.proofs.AnswerLaws.{answers_same}
use Rattle.kinds.proofs.FirstLaws.{none_some}
use Rattle.price.specs.declared.Sums.{Sums}
use Rattle.sheet.proofs.StageLaws.{stages_none, stages_snoc, each_stage, formed_stage}

pub total_append : (f : Stage → ℕ) (ss ts : List Stage) → total f (ss ++ ts) ≡ total f ss + total f ts
unfolding total
total_append f [] ts = omega arith
total_append f (s ∷ ss) ts = omega (arith, total_append f ss ts)

module _ (f : Stage → ℕ) (l : List ℕ) where
  pub total_none : total f (stages_in 0 l) ≡ 0
  unfolding total
  total_none = ap (total f) (stages_none l)

  pub total_more : (m : ℕ) → total f (stages_in (m + 1) l) ≡ total f (stages_in m l) + f (stage_at l m)
  unfolding total
  total_more m = rw (add-one m) (ap (total f) (stages_snoc m l) ∙ total_append f (stages_in m l) (stage_at l m ∷ []) ∙ omega arith)

pub total_const : (b : ℕ) (l : List ℕ) (m : ℕ) → total (λ s. b) (stages_in m l) ≡ m * b
total_const b l zero = total_none (λ s. b) l ∙ omega arith
total_const b l (suc m) = rw (← add-one m) (total_more (λ s. b) l m ∙ omega (arith, total_const b l m, suc-mul m b))

pub gates_few : (l : List ℕ) (m : ℕ) → ((s : ℕ) → s < m → (stage_at l s).control < 2 ^ 16) → total xor_gates_of (stages_in m l) ≤ 15 * m
gates_few l zero small = omega (arith, total_none xor_gates_of l)
gates_few l (suc m) small =
    let rest = gates_few l m (λ s h. small s (omega arith)) in
    let one_more : total xor_gates_of (stages_in (suc m) l) ≡ total xor_gates_of (stages_in m l) + xor_gates_of (stage_at l m) = rw (← add-one m) (total_more xor_gates_of l m) in
    omega (arith, one_more, rest, ones-le 16 _ (small m (omega arith)))

pub controlled : {n k m : ℕ} {l x : List ℕ} → m ≡ count_place edition1 l → x ≡ stage_places edition1 l → length l ≡ side_places edition1 → FormedSide edition1 n k l
    → Controlled m x
controlled {n} {k} {m} {l} {x} count stages places formed =
    let long : length x ≡ 16 = ap length stages ∙ length-drop 16 l ∙ omega arith in
    let few : m ≤ edition1.most_stages = omega (arith, formed.count) in
    record {
      room = omega arith;
      few = few;
      controls = rw count (rw stages ((each_stage (λ s. 1 ≤ s.control) _ _).1 (λ s h. (formed_stage formed s h).control.least)));
    }

carry_same : (p q : Sums) → p.switches ∷ p.multiplexers ∷ p.gates ∷ [] ≡ q.switches ∷ q.multiplexers ∷ q.gates ∷ [] → p ≡ q
carry_same p q e = made (ap (λ (l : List ℕ). get_or l 0 0) e) (ap (λ (l : List ℕ). get_or l 1 0) e) (ap (λ (l : List ℕ). get_or l 2 0) e)
  where
    made : {a b c x y z : ℕ} → a ≡ x → b ≡ y → c ≡ z
        → ◌≡◌ {A = Sums} (record { switches = a; multiplexers = b; gates = c }) (record { switches = x; multiplexers = y; gates = z })
    made f g h = cc

pub prices_unique : {e : Edition} {n k : ℕ} {s : List ℕ} (a b : Result Sums Refusal) → Prices e n k s a → Prices e n k s b → a ≡ b
prices_unique (Ok p) (Ok q) x y = ap Ok (carry_same p q (x.done refl ∙ sym (y.done refl)))
prices_unique (Ok p) (Err v) x y = none_some (answers_same x y)
prices_unique (Err u) (Ok q) x y = none_some (sym (answers_same x y))
prices_unique (Err u) (Err v) x y = let e = answers_same x y in cc
