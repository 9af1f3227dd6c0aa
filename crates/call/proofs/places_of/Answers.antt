use Rattle.std.proofs.Common.{ℕ, ◌≡◌, ◌+◌, ◌^◌, ◌≤◌, List, Result, length, sym, ◌∙◌, arith}
use Rattle.kinds.specs.declared.Refusal.{Refusal}
use Rattle.kinds.proofs.FirstLaws.{first_none}
use Rattle.kinds.proofs.FrameLaws.{in_order_at, in_order_is}
use Rattle.switches.specs.Cells.{cell_at}
use Rattle.maps.specs.Opened.{ListsCells}
use Rattle.maps.specs.declared.OpenSide.{OpenSide}
use Rattle.call.specs.Inside.{ListsPlaces}
use Rattle.call.proofs.places_of.Invariants.{Placing}
use Rattle.call.proofs.places_of.Goals as goal

module _ {base : ℕ} {places₀ cells places : List ℕ} {p : ℕ} (i : Placing base places₀ cells places p) where
  done : {o : OpenSide} {lent : List ℕ} (c : ℕ) (r : Result Unit Refusal) → length cells ≡ length lent → ListsCells o c lent cells r → length cells ≤ p
      → ListsPlaces o c base places₀ places
  done c r whole lists end n k S shows e =
      let answer = lists n k S shows in
      let tick = answer.done (answer.is_first ∙ (first_none _).1 (λ wrong. wrong (sym whole ∙ i.all ∙ e, tt), tt)) in
      in_order_is (2 ^ k) (λ q. base + cell_at k S c q) 0 places (i.same ∙ e)
      (λ q h. i.each q (omega (arith, e, i.all)) ∙ rw (tick, in_order_at (2 ^ k) (cell_at k S c) 0 q h))

pub returns : goal.returns
returns c = done c.loop-p.invariant c.args.tick.0 c.cells.result c.cells.auto.out c.cells.ensures c.loop-p-test.false
