-- The rows that are chosen, and the read side made of them (01, 'The planner's choices').
--   zero_ports          the ports that P1 sends to 0: all of them vanish on the rows of P1, and no others do
--   other_rows          "the k - r others"
--   kept_rows           "k - r of them"
--   as_many             so there are as many controls as directions
--   read_count          so there are k - r read stages
--   read_few            no more than a port has bits, or a tick
--   read_layable        the planned read side can be laid out
use Prim.Native.Nat.{ℕ, ◌+◌, ◌^◌, ◌<◌, ◌≤◌, min}
use mathlib.Core.Path.{◌≡◌, sym, ◌∙◌}
use mathlib.Core.List.{List}
use native.Mathlib.Decide.{ℕ_discrete}
use native.Mathlib.Omega.{arith}
use lib.ListN.{length, get_or, length-map}
use Rattle.kinds.specs.Edition.{Edition}
use Rattle.kinds.specs.Frame.{tick_bits}
use Rattle.kinds.proofs.SearchLaws.{those_at, those_has}
use Rattle.bits.specs.Image.{AllBelow}
use Rattle.span.specs.Scan.{rank, units}
use Rattle.span.specs.Rows.{dots, taken_on}
use Rattle.span.proofs.ScanLaws.{units_length, kept_at_below, others_below}
use Rattle.span.proofs.RankLaws.{rank_length, rank_positions, others_count}
use Rattle.span.proofs.TakenLaws.{taken_rank}
use Rattle.order.specs.Order.{Order}
use Rattle.parts.specs.Parts.{P1, P3, rows_p1, rows_p3}
use Rattle.parts.proofs.PartLaws.{rows_of_length, rows_of_below}
use Rattle.parts.proofs.RowLaws.{dots_p1, rows_rank}
use Rattle.sheet.proofs.LayLaws.{Layable}
use Rattle.construction.specs.Planned.{others_of_p1, ports_to_zero, kept_of_p3, read_stages_of, planned_read}
use Rattle.lay.proofs.PairLaws.{pairs_length, pairs_range}
use Rattle.construction.proofs.WithLaws.{with_read_layable}

module _ (k : ℕ) (C : List ℕ) where
  pub zero_ports : ((l : ℕ) → l < length (ports_to_zero k C) → dots (rows_p1 k C) (get_or (ports_to_zero k C) l 0) ≡ 0)
      × ((p : ℕ) → p < 2 ^ k → dots (rows_p1 k C) p ≡ 0 → (l : ℕ) × (l < length (ports_to_zero k C)) × (get_or (ports_to_zero k C) l 0 ≡ p))
  unfolding ports_to_zero
  zero_ports =
      let zero? : (p : ℕ) → Dec (P1 k C p ≡ 0) = λ p. ℕ_discrete (P1 k C p) 0 in (
        λ l h. let (below, e) = those_at zero? (2 ^ k) l h in dots_p1 k C (get_or (ports_to_zero k C) l 0) below ∙ e,
        λ p h e. those_has zero? (2 ^ k) p h (sym (dots_p1 k C p h) ∙ e),
      )

  pub other_rows : rank (rows_p1 k C) + length (others_of_p1 k C) ≡ k
  unfolding others_of_p1
  other_rows = others_count (rows_p1 k C) ∙ rows_of_length k k (P1 k C)

  others_inside : AllBelow k (others_of_p1 k C)
  unfolding others_of_p1
  others_inside l h = omega (arith, others_below (rows_p1 k C) l h, rows_of_length k k (P1 k C))

module _ (n k : ℕ) (C : List ℕ) where
  abbrev taken : List ℕ
  taken = taken_on (ports_to_zero k C) (rows_p3 n k C)

  taken_length : length taken ≡ tick_bits n k
  taken_length = length-map (rows_p3 n k C) (dots (ports_to_zero k C)) ∙ rows_of_length (tick_bits n k) k (P3 k C)

  kept_inside : AllBelow (tick_bits n k) (kept_of_p3 n k C)
  unfolding kept_of_p3
  kept_inside l h = omega (arith, kept_at_below taken (length taken) l h, taken_length)

  kept_few : length (kept_of_p3 n k C) ≤ tick_bits n k
  unfolding kept_of_p3
  kept_few = omega (arith, rank_positions taken, rank_length taken, taken_length)

module _ {n : ℕ} (k : ℕ) {C : List ℕ} (within : k ≤ n) (o : Order n C) where
  pub kept_rows : rank (rows_p1 k C) + length (kept_of_p3 n k C) ≡ k
  unfolding kept_of_p3
  kept_rows =
      let zeros = zero_ports k C in
      omega (
        arith,
        rows_rank k within o,
        taken_rank k (rows_p1 k C) (rows_p3 n k C) (ports_to_zero k C) (rows_of_below k k (P1 k C)) (rows_of_below (tick_bits n k) k (P3 k C)) zeros.0 zeros.1,
        rank_positions (taken n k C),
      )

  pub as_many : length (units (kept_of_p3 n k C)) ≡ length (units (others_of_p1 k C))
  as_many = omega (arith, units_length (others_of_p1 k C), units_length (kept_of_p3 n k C), other_rows k C, kept_rows)

  pub read_count : rank (rows_p1 k C) + length (read_stages_of n k C) ≡ k
  unfolding read_stages_of
  read_count = omega (arith, pairs_length (units (others_of_p1 k C)) (units (kept_of_p3 n k C)) as_many, units_length (others_of_p1 k C), other_rows k C)

  pub read_few : length (read_stages_of n k C) ≤ min k (tick_bits n k)
  read_few = omega (arith, read_count, kept_rows, kept_few n k C)

  pub read_layable : (e : Edition) → k ≤ e.most_stages → Layable e n k (planned_read n k C)
  unfolding read_stages_of
  read_layable e room =
      with_read_layable e n k (read_stages_of n k C) within (pairs_range k (tick_bits n k) (others_of_p1 k C) (kept_of_p3 n k C) (others_inside k C) (kept_inside n k C))
      (omega (arith, read_count))
