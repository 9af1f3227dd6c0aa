use Rattle.std.proofs.Common.{ℕ, suc, ◌≡◌, ◌+◌, ◌-◌, ◌*◌, ◌^◌, ◌≤◌, ◌<◌, refl, sym, ap, ap₂, ◌∙◌, Ok, Err, List, [], ◌∷◌, length, get_or, set, bit_xor, length-set, get_or-set_same, pow-suc, pow_mono, pow-add, pow_pos, arith}
use native.Mathlib.Decide.{dec_lt}
use lib.Arith.{lt-one}
use Rattle.kinds.specs.Reasons.{wrong_length}
use Rattle.kinds.specs.declared.Refusal.TheVariants.{Length}
use Rattle.kinds.specs.Lengths.{exactly}
use Rattle.kinds.proofs.TruthLaws.{denied}
use Rattle.kinds.proofs.FrameLaws.{in_order_is}
use Rattle.kinds.proofs.FirstLaws.{first_take, first_none}
use Rattle.kinds.proofs.AnswerLaws.{refused_by, done_by}
use Rattle.bits.proofs.ImageLaws.{image_zero}
use Rattle.switches.specs.Cells.{cell_at}
use Rattle.switches.proofs.CellLaws.{cell_double}
use Rattle.maps.specs.Opened.{IsCell, ListsCells}
use Rattle.maps.specs.Inside.{IsColumn, Doubled}
use Rattle.maps.specs.declared.OpenSide.{OpenSide}
use Rattle.maps.proofs.OpenLaws.{shown_k, is_bank, is_cell}
use Rattle.maps.proofs.OpenSide.cells.Invariants.{Listing}
use Rattle.maps.proofs.OpenSide.cells.Goals as goal

wrong : (o : OpenSide) (c : ℕ) (out : List ℕ) → ¬ (length out ≡ 2 ^ o.k) → ListsCells o c out out (Err Length)
wrong o c out differs n k S h =
    refused_by (first_take (wrong_length ((length out, exactly (2 ^ k)) ∷ [])) [] (λ right. differs (right.0 ∙ ap (λ (x : ℕ). 2 ^ x) (sym (shown_k h))))) refl

start : {o : OpenSide} (out : List ℕ) (v : ℕ) → length out ≡ 2 ^ o.k → Listing o (set out 0 v) (set out 0 v) 1 0
start out v whole = record {
  whole = length-set out 0 v ∙ whole;
  same = refl;
  power = refl;
  each = λ c first p h. rw (lt-one h) first;
}

module _ {o : OpenSide} {out₀ out : List ℕ} {filled j : ℕ} (i : Listing o out₀ out filled j) (h : filled < length out) where
  bits_left : j < o.k
  bits_left = elim (dec_lt j o.k) [
    | yes l ↦ l
    | no l ↦ absurd (omega (arith, i.whole, i.same, i.power, pow_mono {i = o.k} {j = j} (omega arith)))
  ]

  room : 2 * filled ≤ length out
  room = omega (arith, i.whole, i.same, i.power, pow-suc 2 j, pow_mono {i = suc j} {j = o.k} bits_left)

  more : {v : ℕ} {next : List ℕ} → IsColumn o j v → Doubled filled v out next → Listing o out₀ next (filled * 2) (j + 1)
  more {v} {next} column doubled = record {
    whole = i.whole;
    same = doubled.same ∙ i.same;
    power = omega (arith, i.power, pow-add 2 j 1);
    each = λ c first p l. elim (dec_lt p filled) [
      | yes low ↦ rw (doubled.low p low) (i.each c first p low)
      | no high ↦ upper c first p l high
    ];
  }
    where
      upper : (c : ℕ) → IsCell o c 0 (get_or out₀ 0 0) → (p : ℕ) → p < filled * 2 → ¬ (p < filled) → IsCell o c p (get_or next p 0)
      upper c first p l high n k S shows =
          let q = p - filled in
          let inside : q < filled = omega arith in
          ap (λ (x : ℕ). get_or next x 0) {x = p} {y = filled + q} (omega arith)
          ∙ doubled.high q inside
          ∙ ap₂ bit_xor (i.each c first q inside n k S shows) (column n k S shows (omega (arith, bits_left, shown_k shows, shows.ports, shows.words)))
          ∙ sym (cell_double shows.used c q j (omega (arith, bits_left, shown_k shows)) (omega (arith, inside, i.power)))
          ∙ ap (cell_at k S c) {x = 2 ^ j + q} {y = p} (omega (arith, i.power))

right : {o : OpenSide} {came out : List ℕ} {first filled j : ℕ} (c : ℕ) → Listing o (set came 0 first) out filled j → length out ≤ filled
    → IsCell o c 0 first → ListsCells o c came out (Ok (tt {0}))
right {o} {came} {out} {first} c i end cell n k S h =
    let kept = length-set came 0 first in
    let all : length came ≡ 2 ^ k = sym kept ∙ i.whole ∙ ap (λ (x : ℕ). 2 ^ x) (shown_k h) in
    let there : get_or (set came 0 first) 0 0 ≡ first = get_or-set_same came 0 first 0 (omega (arith, all, pow_pos k)) in
    done_by ((first_none (wrong_length ((length came, exactly (2 ^ k)) ∷ []) ∷ [])).1 (λ wrong. wrong (all, tt), tt))
    (in_order_is (2 ^ k) (cell_at k S c) 0 out (i.same ∙ kept ∙ all) (λ p l. i.each c (rw there cell) p (omega (arith, all, kept, i.same)) n k S h))

pub returns-then-not-is_two_to : goal.returns-then-not-is_two_to
returns-then-not-is_two_to c = wrong _ _ _ (denied c.is_two_to.ensures c.if-not-is_two_to.true)

pub loop-filled-init : goal.loop-filled-init
loop-filled-init c = start c.args.out.now c.cell_number.result (c.is_two_to.ensures.0 c.if-not-is_two_to.false)

pub double-requires : goal.double-requires
double-requires c = room c.loop-filled.invariant c.loop-filled-test.true

pub overflow_add-j : goal.overflow_add-j
overflow_add-j c = omega (arith, bits_left c.loop-filled.invariant c.loop-filled-test.true)

pub loop-filled-preserved : goal.loop-filled-preserved
loop-filled-preserved c = more c.loop-filled.invariant c.loop-filled-test.true c.column.ensures c.double.ensures

pub returns : goal.returns
returns c =
    right c.args.tick.0 c.loop-filled.invariant c.loop-filled-test.false
    (is_cell c.args.tick.0 0 c.address-address.ensures
    (is_bank c.args.self.now c.args.tick.0 0 c.as_slice.ensures.value (sym (image_zero c.args.self.now.wiring)) c.after_stages-bank.ensures) c.cell_number.ensures)
