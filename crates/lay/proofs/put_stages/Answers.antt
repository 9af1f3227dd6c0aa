use Rattle.std.proofs.Common.{ℕ, suc, ◌≡◌, ◌+◌, ◌-◌, ◌*◌, ◌≤◌, ◌<◌, refl, sym, ap, ◌∙◌, List, [], ◌∷◌, ◌++◌, append_assoc, append-nil, length, get_or, take, drop, set, length-set, length-take, length-drop, drop_of_length-le, take-suc-set, take_all, arith}
use lib.ListN.{replicate}
use Rattle.std.proofs.lemmas.List.{take_more}
use Rattle.sheet.specs.Sheet.{flat}
use Rattle.sheet.specs.declared.Stage.{Stage}
use Rattle.sheet.proofs.LayLaws.{flat_snoc, flat_length}
use Rattle.lay.proofs.put_stages.Goals as goal

abbrev nothing : Stage
nothing = record { direction = 0; control = 0 }

more : (ss : List Stage) (s : ℕ) (l : List ℕ) → 2 * length ss ≤ length l → s < length ss → take (2 * s) l ≡ flat (take s ss)
    → take (2 * (s + 1)) (set (set l (2 * s) (get_or ss s nothing).direction) (2 * s + 1) (get_or ss s nothing).control) ≡ flat (take (s + 1) ss)
more ss s l room h e =
    let x = get_or ss s nothing in
    let once = set l (2 * s) x.direction in
    let first = take-suc-set l (2 * s) x.direction (omega arith) in
    let second = take-suc-set once (2 * s + 1) x.control (omega (arith, length-set l (2 * s) x.direction)) in
    ap (λ (i : ℕ). take i (set once (2 * s + 1) x.control)) {x = 2 * (s + 1)} {y = suc (2 * s + 1)} (omega arith)
    ∙ second
    ∙ ap (λ (r : List ℕ). r ++ (x.control ∷ [])) (ap (λ (i : ℕ). take i once) {x = 2 * s + 1} {y = suc (2 * s)} (omega arith) ∙ first ∙ ap (λ (r : List ℕ). r ++ (x.direction ∷ [])) e)
    ∙ append_assoc (flat (take s ss)) (x.direction ∷ []) (x.control ∷ [])
    ∙ sym (ap flat (take_more ss s nothing h) ∙ flat_snoc (take s ss) x)

pub loop-s-preserved : goal.loop-s-preserved
loop-s-preserved c =
    let i = c.loop-s.invariant in
    record { same = length-set _ _ _ ∙ length-set _ _ _ ∙ i.same; front = more c.args.stages.now c.loop-s.s c.loop-s.places (omega (arith, i.same)) c.loop-s-test.true i.front }

pub returns : goal.returns
returns c =
    let ss = c.args.stages.now in
    let l = c.loop-s.places in
    let m = 2 * length ss in
    let i = c.loop-s.invariant in
    let front : take m l ≡ flat ss = ap (λ (s : ℕ). take (2 * s) l) {x = length ss} {y = c.loop-s.s} (omega arith) ∙ i.front ∙ ap flat (take_all c.loop-s.s ss (omega arith)) in
    let size : length (take (length l - m) (drop m l)) ≡ length c.args.places.now - length (flat ss) = simp (length-take, length-drop) (omega (arith, i.same, flat_length ss)) in
    let zeros = c.fill.ensures.after (λ y e. e) ∙ ap (λ (n : ℕ). replicate n 0) size in
    rw (drop_of_length-le (drop m l) {i = length l - m} (omega (arith, length-drop m l)), append-nil c.fill.new.self, front, zeros) refl
