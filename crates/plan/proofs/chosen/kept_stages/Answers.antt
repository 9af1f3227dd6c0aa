-- Column j adds its stage where it is kept, and is passed otherwise.
use Rattle.std.proofs.Common.{ℕ, ◌+◌, ◌≤◌, ◌<◌, ◌≡◌, Bool, true, false, List, [], ◌∷◌, ◌++◌, map, length, get_or, take, refl, sym, ap, ap₂, ◌∙◌, inl, inr, add-one, arith, length-take-le, take_all, take_at}
use Rattle.std.proofs.lemmas.List.{take-append-le}
use mathlib.Core.List.{map-append}
use native.Mathlib.Decide.{dec_le}
use Rattle.kinds.specs.Edition.{edition1}
use Rattle.kinds.specs.Answers.{Says}
use Rattle.kinds.proofs.TruthLaws.{denied}
use Rattle.bits.specs.Padded.{array_width}
use Rattle.span.specs.Scan.{kept_at, masks}
use Rattle.span.specs.Rows.{row}
use Rattle.span.proofs.ScanLaws.{kept_or_sum, kept_at_old, kept_at_new, IsKept}
use Rattle.span.proofs.MaskLaws.{masks_length, masks_at}
use Rattle.rows.specs.Listed.{kept_in}
use Rattle.rows.proofs.KeptLaws.{told}
use Rattle.sheet.specs.declared.Stage.{Stage}
use Rattle.switches.specs.Written.{kept_stage, kept_stages_of}
use Rattle.plan.proofs.chosen.kept_stages.Invariants.{Keeping}
use Rattle.plan.proofs.chosen.kept_stages.Goals as goal
use Rattle.plan.proofs.chosen.kept_stages.Goals.{then-was_kept, else-was_kept}

start : {F ms : List ℕ} → length F ≤ array_width → ms ≡ masks F → Keeping F ms [] 0
unfolding kept_at
start room masked = record { room = room; masked = masked; kept = refl }

module _ {F ms : List ℕ} {ss : List Stage} {j : ℕ} (i : Keeping F ms ss j) {b : Bool} (h : j < length F) (e : b ≡ kept_in ms j) where
  abbrev before : List Stage
  before = map (kept_stage F) (kept_at F j)

  says : Says b (IsKept F j)
  says = rw e (told F ms j (rw i.masked (masks_at F j h)))

  one_more : b ≡ true → map (kept_stage F) (kept_at F (j + 1)) ≡ before ++ (kept_stage F j ∷ [])
  one_more taken = rw (add-one j) (ap (map (kept_stage F)) (kept_at_new F j (says.0 taken)) ∙ map-append (kept_stage F) (kept_at F j) (j ∷ []))

  -- one more of a list that stands as far as there is room
  room_for : (ts : List Stage) (x : Stage) → take edition1.most_stages (take edition1.most_stages ts ++ (x ∷ [])) ≡ take edition1.most_stages (ts ++ (x ∷ []))
  room_for ts x = elim (dec_le edition1.most_stages (length ts)) [
    | yes full ↦
        let all = length-take-le edition1.most_stages ts full in
        take_at (take edition1.most_stages ts) (x ∷ []) edition1.most_stages all ∙ sym (take-append-le edition1.most_stages ts (x ∷ []) full)
    | no few ↦ rw (take_all edition1.most_stages ts (omega arith)) refl
  ]

  more : {control : ℕ} {next : List Stage} → b ≡ true → control ≡ row (take array_width ms) j
      → next ≡ take edition1.most_stages (ss ++ (record { direction = get_or F j 0; control = control } ∷ [])) → Keeping F ms next (j + 1)
  more {control} taken c is =
      let whole : take array_width ms ≡ masks F = ap (take array_width) i.masked ∙ take_all array_width (masks F) (omega (arith, masks_length F, i.room)) in
      record {
        room = i.room;
        masked = i.masked;
        kept =
            is
            ∙ ap₂ (λ (ts : List Stage) (x : ℕ). take edition1.most_stages (ts ++ (record { direction = get_or F j 0; control = x } ∷ []))) i.kept (c ∙ ap (λ (l : List ℕ). row l j) whole)
            ∙ room_for before (kept_stage F j)
            ∙ sym (ap (take edition1.most_stages) (one_more taken));
      }

  skip : b ≡ false → Keeping F ms ss (j + 1)
  skip left =
      let same : kept_at F (j + 1) ≡ kept_at F j = rw (add-one j) (elim (kept_or_sum F j) [ inl new ↦ absurd (denied says left new) | inr sum ↦ kept_at_old F j sum ]) in
      record { room = i.room; masked = i.masked; kept = rw same i.kept }

pub loop-j-init : goal.loop-j-init
loop-j-init c =
    let F = c.args.columns.now in
    rw c.new-stages.ensures
    (start c.requires (rw (c.masks_of-all.ensures, take_all array_width F c.requires) (take_at (masks F) _ (length F) (masks_length F))))

pub loop-j-preserved : goal.loop-j-preserved
loop-j-preserved c =
    let i = c.loop-j.invariant in
    let h = c.loop-j-test.true in
    let kept = c.was_kept.ensures in
    elim c.if-was_kept.branch [
      | then-was_kept w ↦ rw w.stages-is (more i h kept w.if-was_kept.true w.row.ensures w.add.ensures)
      | else-was_kept w ↦ rw w.stages-is (skip i h kept w.if-was_kept.false)
    ]

pub returns : goal.returns
unfolding kept_stages_of
returns c =
    let F = c.args.columns.now in
    c.loop-j.invariant.kept ∙ ap (λ (m : ℕ). take edition1.most_stages (map (kept_stage F) (kept_at F m))) {x = c.loop-j.j} {y = length F} (omega arith)
