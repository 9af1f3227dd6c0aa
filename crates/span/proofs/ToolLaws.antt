-- What a caller of `scan_all` or `mask_of` reads off its promise.
--   asks_unique          two right answers are the same
--   asked                asked for a sum of the numbers taken, a scan has a mask, which selects that sum from them
--   scans_all            a scan of at most `most_scanned` numbers holds them all
--   scans_masks          a scan of at most `most_scanned` numbers has their masks at its front
--   scans_unique         two right scans of a list have the same masks, and say the same
use Prim.Native.Nat.{ℕ, ◌^◌, ◌≤◌, ◌<◌}
use mathlib.Core.Path.{◌≡◌, sym, ap, ◌∙◌}
use mathlib.Core.List.{List, [], ◌∷◌, ◌++◌}
use native.Mathlib.Omega.{arith}
use lib.ListN.{length, get_or, take, length-take}
use lib.Seq.{ext_get_or, take_all, get_or-take}
use Rattle.std.specs.Prelude.{Option, Some}
use Rattle.bits.specs.Image.{image}
use Rattle.bits.proofs.ImageLaws.{image_prefix}
use Rattle.kinds.proofs.TruthLaws.{says_same}
use Rattle.span.specs.Sums.{SumOf}
use Rattle.span.specs.Decisions.{sum_of?}
use Rattle.span.specs.Scan.{kept, mask, masks}
use Rattle.span.specs.Held.{Holds}
use Rattle.span.specs.Tools.{most_scanned, Asks, Scans}
use Rattle.span.specs.declared.Scan.{Scan}
use Rattle.span.specs.declared.Scanned.{Scanned}
use Rattle.span.proofs.SumLaws.{span_trans}
use Rattle.span.proofs.MaskLaws.{mask_before, mask_sum, masks_length}
use Rattle.span.proofs.RankLaws.{kept_sum}
use Rattle.span.proofs.SnocLaws.{next_at, Sum_before_snoc}

pub asks_unique : {vs : List ℕ} {scan : Scan} {v : ℕ} {r q : Option ℕ} → Holds scan vs → Asks scan v r → Asks scan v q → r ≡ q
asks_unique {vs} {v = v} h a b = elim (sum_of? (kept vs) v) [
  | yes s ↦ a.sum vs h s ∙ sym (b.sum vs h s)
  | no n ↦ a.no_sum vs h n ∙ sym (b.no_sum vs h n)
]

pub asked : {cs : List ℕ} {scan : Scan} {v : ℕ} {r : Option ℕ} → Holds scan cs → SumOf cs v → Asks scan v r
    → (m : ℕ) × (r ≡ Some m) × (m < 2 ^ length cs) × (image cs m ≡ v)
asked {cs} {v = v} h s a =
    let more = cs ++ (v ∷ []) in
    let m = mask more (length cs) in
    let known = span_trans {cs = cs} (kept_sum cs) s in
    let low : m < 2 ^ length cs = mask_before more (length cs) ((Sum_before_snoc cs v).1 known) in
    (m, a.sum cs h known, low, sym (image_prefix cs (v ∷ []) m low) ∙ mask_sum more (length cs) ∙ next_at cs v)

pub scans_all : {vs : List ℕ} {r : Scanned} → Scans vs r → length vs ≤ most_scanned → Holds r.scan vs
scans_all {vs} s few = rw (take_all most_scanned vs few) at s.holds

pub scans_masks : {vs : List ℕ} {r : Scanned} → Scans vs r → length vs ≤ most_scanned → take (length vs) r.masks ≡ masks vs
scans_masks {vs} {r} s few =
    let whole = take_all most_scanned vs few in
    ext_get_or 0 (take (length vs) r.masks) (masks vs) (omega (arith, length-take (length vs) r.masks, s.places, masks_length vs))
    (λ i h.
    let inside : i < length vs = omega (arith, length-take (length vs) r.masks) in
    get_or-take (length vs) r.masks i 0 inside ∙ s.masked i ∙ ap (λ (l : List ℕ). get_or (masks l) i 0) whole)

pub scans_unique : {vs : List ℕ} {r q : Scanned} → Scans vs r → Scans vs q → (r.masks ≡ q.masks) × (r.independent ≡ q.independent)
scans_unique {r = r} {q} s t = (
  ext_get_or 0 r.masks q.masks (s.places ∙ sym t.places) (λ i h. s.masked i ∙ sym (t.masked i)),
  says_same r.independent q.independent s.says t.says,
)
