use Rattle.std.proofs.Common.{ℕ, ◌+◌, ◌^◌, ◌≤◌, ◌<◌, ◌≡◌, Bool, true, false, List, length, get_or, take, set, replicate, refl, sym, ◌∙◌, arith, below_none, below_more, leb-true, le-leb, get_or-set_same, get_or-set_other, get_or-take, take_all, length-set, length-take}
use Rattle.std.proofs.Math.Nat.{min_comm}
use Rattle.std.proofs.lemmas.List.{take_min}
use native.Mathlib.Decide.{dec_lt}
use lib.ListN.{get_or-eq_default}
use Rattle.kinds.specs.Answers.{Says}
use Rattle.kinds.proofs.TruthLaws.{false≢true, says_no}
use Rattle.bits.specs.Image.{AllBelow}
use Rattle.bits.proofs.ImageLaws.{zeros_at}
use Rattle.span.specs.Scan.{mask, masks}
use Rattle.span.proofs.ScanLaws.{IsKept}
use Rattle.span.specs.Held.{width}
use Rattle.span.specs.Tools.{most_scanned, Scans}
use Rattle.span.proofs.StepLaws.{Stepped, step_old, step_new}
use Rattle.span.proofs.SumLaws.{independent_width}
use Rattle.span.proofs.MaskLaws.{masks_at, masks_length}
use Rattle.span.proofs.RankLaws.{independent_all_kept, all_kept_independent}
use Rattle.span.proofs.HeldLaws.{row_place, echelon_none}
use Rattle.span.proofs.scan_all.Invariants.{AllKept, Scanning}
use Rattle.span.proofs.scan_all.Goals.{then-left-ge65536, else-left-ge65536}
use Rattle.span.proofs.scan_all.Goals as goal

start : (vs first : List ℕ) {b : Bool} → Says b (length vs ≤ most_scanned) → Scanning vs first (replicate width 0) (replicate most_scanned 0) b 0
start vs first says = record {
  echelon = echelon_none;
  places = refl;
  masked = below_none (λ i. get_or (replicate most_scanned 0) i 0 ≡ mask first i);
  rest = λ i h. zeros_at most_scanned i;
  says = (λ e. (says.0 e, below_none (IsKept first)), λ all. says.1 all.0);
}

module _ {vs first es ms : List ℕ} {b : Bool} {j : ℕ} (i : Scanning vs first es ms b j) (room : j < most_scanned) where
  more : {es' : List ℕ} {k c : Bool} {m : ℕ} → Stepped first j es' k m → Says c (AllKept vs first (j + 1)) → Scanning vs first es' (set ms j m) c (j + 1)
  more {m = m} step says = record {
    echelon = step.echelon;
    places = length-set ms j m ∙ i.places;
    masked = below_more (λ l. get_or (set ms j m) l 0 ≡ mask first l) j (λ l h. get_or-set_other ms j l m 0 (omega arith) ∙ i.masked l h) (get_or-set_same ms j m 0 (omega (arith, i.places)) ∙ step.masked);
    rest = λ l h. get_or-set_other ms j l m 0 (omega arith) ∙ i.rest l (omega arith);
    says = says;
  }

  keeps : {es' : List ℕ} {m : ℕ} → Stepped first j es' true m → Scanning vs first es' (set ms j m) b (j + 1)
  keeps step = more step (
    λ e. let (few, all) = i.says.0 e in (few, below_more (IsKept first) j all (step.keeps.0 refl)),
    λ (few, all). i.says.1 (few, λ l h. all l (omega arith)),
  )

  passes : {es' : List ℕ} {m : ℕ} → Stepped first j es' false m → Scanning vs first es' (set ms j m) false (j + 1)
  passes step = more step (says_no (λ (few, all). false≢true (step.keeps.1 (all j (omega arith)))))

module _ {vs es ms : List ℕ} {b : Bool} {j : ℕ} (i : Scanning vs (take most_scanned vs) es ms b j) where
  abbrev scanned : List ℕ
  scanned = take most_scanned vs

  done : AllBelow (2 ^ width) vs → j ≡ length scanned → Scans vs (record { scan = record { entries = es }; masks = ms; independent = b })
  done narrow end = record {
    holds = record { echelon = rw (take_all j scanned (omega arith)) at i.echelon };
    places = i.places;
    masked = λ l. elim (dec_lt l (length scanned)) [
      | yes h ↦ i.masked l (omega arith) ∙ sym (masks_at scanned l h)
      | no out ↦ i.rest l (omega arith) ∙ sym (get_or-eq_default (masks scanned) 0 (omega (arith, masks_length scanned)))
    ];
    says = (
      λ e.
          let (few, all) = i.says.0 e in
          rw (take_all most_scanned vs few) at (all_kept_independent scanned (λ l h. all l (omega arith))),
      λ independent.
          let few = independent_width width vs narrow independent in
          i.says.1 (few, λ l h. rw (take_all most_scanned vs few) (independent_all_kept vs independent l (omega (arith, length-take most_scanned vs)))),
    );
  }

pub loop-j-init : goal.loop-j-init
loop-j-init c = start _ _ (leb-true _ _, le-leb _ _)

pub bounds-entries-z : goal.bounds-entries-z
bounds-entries-z c = row_place c.reduce-left.type_inv c.if-left-ge65536.true

pub loop-j-preserved : goal.loop-j-preserved
loop-j-preserved c =
    let numbers = c.args.numbers.now in
    let end = c.min.result in
    let first = take end numbers in
    let j = c.loop-j.j in
    let inv = c.loop-j.invariant in
    let inside : j < length first = c.loop-j-test.true in
    let room : j < most_scanned = omega (arith, length-take end numbers) in
    let narrow : get_or first j 0 < 2 ^ width = rw (get_or-take end numbers j 0 (omega (arith, length-take end numbers))) (c.type_inv.numbers j).fits in
    let left = rw c.from.ensures at c.reduce-left.ensures in
    elim c.if-left-ge65536.branch [
      | then-left-ge65536 w ↦
          rw (w.entries-is, w.masks-is, w.independent-is)
          (keeps inv room (step_new first j inside narrow inv.echelon left c.reduce-left.type_inv w.if-left-ge65536.true room (w.two_to-own.ensures.fits (omega arith))))
      | else-left-ge65536 w ↦
          rw (w.entries-is, w.masks-is, w.independent-is)
          (passes inv room (step_old first j inside narrow inv.echelon left w.if-left-ge65536.false))
    ]

pub returns : goal.returns
returns c =
    let vs = c.args.numbers.now in
    let whole : take c.min.result vs ≡ take most_scanned vs = rw (c.min.ensures, min_comm (length vs) most_scanned) (take_min most_scanned vs) in
    let end : c.loop-j.j ≡ length (take c.min.result vs) = omega arith in
    done (rw whole at c.loop-j.invariant) (λ l h. (c.type_inv.numbers l).fits) (rw whole at end)
