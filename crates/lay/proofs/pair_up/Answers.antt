use Rattle.std.proofs.Common.{ℕ, ◌≡◌, ◌≤◌, ◌<◌, sym, ap, ◌∙◌, inl, inr, List, [], ◌∷◌, ◌++◌, length, take, take_all, take_at, append_assoc, append-nil, length-take, arith}
use Rattle.std.proofs.lemmas.List.{nil_from_length}
use native.Mathlib.Decide.{dec_lt}
use borrow.Author.Tests.{false-eqb, true-eqb}
use Rattle.sheet.specs.declared.Stage.{Stage}
use Rattle.few.proofs.FewLaws.{with_room}
use Rattle.lay.specs.Staged.{pairs}
use Rattle.lay.proofs.PairLaws.{pairs_least}
use Rattle.lay.proofs.pair_up.Goals as goal

module _ (items : List Stage) where
  more : {d c : ℕ} {a b x y : List ℕ} {next all : List Stage} → (a ≡ d ∷ x) × (b ≡ c ∷ y) → next ≡ items ++ (record { direction = d; control = c } ∷ [])
      → items ++ pairs a b ≡ all → next ++ pairs x y ≡ all
  unfolding pairs
  more (first, second) is e = let left = rw second at (rw first at e) in rw (is, append_assoc) left

  no_more : (s : Stage) {next : List Stage} → next ≡ take 8 (items ++ (s ∷ [])) → length next ≤ 8
  no_more s e = omega (arith, ap length e, length-take 8 (items ++ (s ∷ [])))

  -- the stages are as many as a side may have, or none is left
  done : (rest : List Stage) {all : List Stage} → length items ≤ 8 → (length items < 8 → length rest ≡ 0) → items ++ rest ≡ all → items ≡ take 8 all
  done rest few last e = elim (dec_lt (length items) 8) [
    | yes less ↦
        let none = nil_from_length rest (last less) in
        let whole = rw append-nil at (rw none at e) in
        rw (← whole) (sym (take_all 8 items few))
    | no full ↦ rw (← e) (sym (take_at items rest 8 (omega arith)))
  ]

pub loop-direction-preserved : goal.loop-direction-preserved
loop-direction-preserved c =
    let room : length c.loop-direction.stages.items < 8 = omega (arith, c.loop-direction.invariant.few, false-eqb _ _ c.if-is_full.ensures.value) in
    record {
      few = no_more _ _ c.add.ensures;
      left = more _ c.in-Some.ensures.steps (c.add.ensures ∙ with_room 8 _ _ room) c.loop-direction.invariant.left;
    }

pub returns-in-None : goal.returns-in-None
returns-in-None c =
    let iterator = c.loop-direction.direction-iterator in
    let least = pairs_least iterator.a.rest.now iterator.b.rest.now in
    done _ _ c.loop-direction.invariant.few (λ _. elim c.in-None.ensures.steps [ inl (_, none) ↦ omega arith | inr (_, none) ↦ omega arith ])
    c.loop-direction.invariant.left

pub returns-then-is_full : goal.returns-then-is_full
returns-then-is_full c =
    done _ _ c.loop-direction.invariant.few (λ less. omega (arith, true-eqb _ _ c.if-is_full.ensures.value)) c.loop-direction.invariant.left
