use Prim.Native.Char.{code}
use Rattle.std.proofs.Common.{List, ℕ, ◌∷◌, ◌++◌, ◌≡◌, ◌+◌, ◌≤◌, ◌<◌, length, get_or, drop, refl, ap, arith, length-append}
use Rattle.std.proofs.Math.ListN.{set, length-set}
use Rattle.text.specs.Decimal.{decimal}
use Rattle.lines.specs.Line.{line_end}
use Rattle.lines.specs.Written.{Writes}
use Rattle.lines.proofs.WriteLaws.{writes_byte, left_more, left_done}
use Rattle.lines.proofs.LineLaws.{ending_more, ending_done}
use Rattle.lines.proofs.put_numbers.Invariants.{Writing}
use Rattle.lines.proofs.put_numbers.Goals as goal

module _ {ns : List ℕ} {at : ℕ} {text₀ text : List ℕ} {place i : ℕ} (w : Writing ns at text₀ text place i) where
  module _ (h : i < length ns) where
    abbrev number : List ℕ
    number = decimal (get_or ns i 0)

    abbrev others : List ℕ
    others = line_end (drop (i + 1) ns)

    here : line_end (drop i ns) ≡ code " " ∷ (number ++ others)
    here = ending_more ns i h

    room : place + 1 + length number ≤ length text
    room = omega (arith, w.left, ap length here, length-append number others)

    more : {y : List ℕ} {r : ℕ} → Writes number (place + 1) (set text place (code " ")) y r → Writing ns at text₀ y r (i + 1)
    more wrote = record { left = left_more (left_more w.left here writes_byte) refl wrote }

  done : length ns ≤ i → Writes (line_end ns) at text₀ (set text place (code "\n")) (place + 1)
  done h = left_done (left_more w.left (ending_done ns i h) writes_byte) refl

pub put_digits-place-requires : goal.put_digits-place-requires
put_digits-place-requires c = simp length-set (omega (arith, room c.loop-number.invariant c.loop-number-test.true))

pub loop-number-preserved : goal.loop-number-preserved
loop-number-preserved c = more c.loop-number.invariant c.loop-number-test.true c.put_digits-place.ensures

pub returns : goal.returns
returns c = done c.loop-number.invariant c.loop-number-test.false
