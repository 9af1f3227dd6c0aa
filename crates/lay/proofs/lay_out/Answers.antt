-- Three parts and one place, written into all places of a side one after another, are these four in a row.
use Rattle.std.proofs.Common.{ℕ, suc, ◌+◌, ◌-◌, ◌<◌, ◌≡◌, ap, ap₂, ◌∙◌, List, [], ◌∷◌, ◌++◌, append_assoc, append-nil, length, take, drop, set, length-set, length-append, length-take, length-drop, drop_of_length-le, length-take-le, take_at, take-suc-set, arith}
use Rattle.std.proofs.lemmas.Slice.{take-put_mid}
use borrow.Rule.Slice.PartMut.{put_mid}
use Rattle.bits.specs.Padded.{padded_to}
use Rattle.sheet.specs.Sheet.{flat}
use Rattle.lay.proofs.lay_out.Goals as goal

module _ (a w v : ℕ) (l A W : List ℕ) (room : a + w < length l) (addresses : length A ≡ a) (wiring : length W ≡ w) where
  abbrev begun : List ℕ
  begun = set (put_mid a w (A ++ drop a l) W) (a + w) v

  same : length begun ≡ length l
  same = simp (length-set, length-append, length-take, length-drop) (omega arith)

  front : take (suc (a + w)) begun ≡ (A ++ W) ++ (v ∷ [])
  front =
      take-suc-set (put_mid a w (A ++ drop a l) W) (a + w) v (omega (arith, same, length-set (put_mid a w (A ++ drop a l) W) (a + w) v))
      ∙ ap (λ (x : List ℕ). x ++ (v ∷ [])) (take-put_mid a w (A ++ drop a l) W (a + w) (omega arith) (omega (arith, length-append A (drop a l)))
      ∙ ap (λ (x : List ℕ). x ++ W) (take_at A (drop a l) a addresses))

  rest_length : length (take (length begun - suc (a + w)) (drop (suc (a + w)) begun)) ≡ length l - suc (a + w)
  rest_length = simp (length-take, length-drop) (omega (arith, same))

  laid : {X Y G Z : List ℕ} {n : ℕ} → A ≡ X → W ≡ Y → v ≡ n → G ≡ Z → put_mid (suc (a + w)) (length begun - suc (a + w)) begun G ≡ X ++ (Y ++ (n ∷ Z))
  laid {G = G} first second count stages =
      let end = suc (a + w) in
      rw (drop_of_length-le (drop end begun) {i = length begun - end} (omega (arith, length-drop end begun)), append-nil G, front, first, second, count, stages)
      (simp append_assoc)

-- the first m numbers of ns, where m are wanted
part : (n : ℕ) (ns : List ℕ) {m : ℕ} {p : List ℕ} → p ≡ padded_to m (take m ns) → m ≡ n → p ≡ padded_to n (take n ns)
part n ns e same = e ∙ ap (λ (m : ℕ). padded_to m (take m ns)) same

pub returns : goal.returns
returns c =
    let side = c.args.side.now in
    let A = c.pad_into.new.places in
    let W = c.pad_into-2.new.places in
    let all : length side ≡ 32 = omega arith in
    let first : length (take 10 side) ≡ 10 = length-take-le 10 side (omega arith) in
    let second : length (take 5 (drop 10 (A ++ drop 10 side))) ≡ 5 = simp (length-take, length-drop, length-append) (omega arith) in
    let a = c.pad_into.auto.places ∙ first in
    let w = c.pad_into-2.auto.places ∙ second in
    record {
      laid = λ _. laid 10 5 c.len.result side A W (omega arith) a w
          (part 10 c.args.addresses.now c.pad_into.ensures first)
          (part 5 c.args.wiring.now c.pad_into-2.ensures second)
          c.len.ensures.value
          (c.put_stages.ensures ∙ ap₂ padded_to (rest_length 10 5 c.len.result side A W (omega arith) a w ∙ omega arith) (ap flat c.as_slice.ensures.value));
      no_side = λ other. absurd (other all);
    }
