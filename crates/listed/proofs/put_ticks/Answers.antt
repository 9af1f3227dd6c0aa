use Prim.Native.Char.{code}
use Rattle.std.proofs.Common.{List, ℕ, [], ◌∷◌, ◌++◌, ◌≡◌, suc, ◌+◌, ◌-◌, ◌*◌, ◌/◌, ◌^◌, ◌≤◌, ◌<◌, min, length, take, drop, refl, sym, ap, ◌∙◌, arith, length-append, length-drop}
use native.Mathlib.Nat.{lt_of_mul-lt-mul_right, mul-le-mul_right, suc-mul}
use lib.Pow.{pow_pos}
use Rattle.text.specs.Decimal.{decimal}
use Rattle.promise.specs.Series.{words_of_tick}
use Rattle.lines.specs.Line.{line_end}
use Rattle.lines.specs.Written.{Writes, Puts}
use Rattle.lines.proofs.WriteLaws.{writes_length, left_more, left_done}
use Rattle.listed.specs.Inside.{tick_lines}
use Rattle.listed.proofs.TickLaws.{ticks_from, ticks_more, ticks_done, tick_words, tick_others}
use Rattle.listed.proofs.put_ticks.Invariants.{Writing}
use Rattle.listed.proofs.put_ticks.Goals as goal

-- the iterator hands out the next chunk
record Chunk (size : ℕ) (rest words others : List ℕ) : Type 0 where
  parts : rest ≡ words ++ others
  many : length words ≡ min size (length rest)
  some : 1 ≤ length rest

module _ {k : ℕ} {l : List ℕ} {at : ℕ} {text₀ text : List ℕ} {place c size : ℕ} {rest : List ℕ} (w : Writing k l at text₀ text place c size rest) where
  module _ {words others : List ℕ} (chunk : Chunk size rest words others) where
    tick : c < length l / 2 ^ k
    tick = lt_of_mul-lt-mul_right (2 ^ k) (omega (arith, chunk.some, w.frames.whole, ap length w.others, length-drop (c * 2 ^ k) l))

    whole : length words ≡ 2 ^ k
    whole = omega (arith, chunk.many, w.words, w.frames.whole, ap length w.others, length-drop (c * 2 ^ k) l, suc-mul c (2 ^ k), mul-le-mul_right (2 ^ k) tick)

    these : words ≡ words_of_tick k l c
    these = tick_words k l c words others (sym w.others ∙ chunk.parts) whole

    abbrev later : List ℕ
    later = line_end words ++ ticks_from k l (c + 1)

    this : ticks_from k l c ≡ decimal c ++ (code ":" ∷ later)
    this = rw (← these) at (ticks_more k l c tick)

    room : place + length (decimal c) + 1 + length (line_end words) ≤ length text
    room = omega (arith, w.left, ap length this, length-append (decimal c) (code ":" ∷ later), length-append (line_end words) (ticks_from k l (c + 1)))

    more : {x y z : List ℕ} {p q r d m : ℕ} → Puts (decimal c) place text x p → Puts (code ":" ∷ []) p x y q → Puts (line_end words) q y z r → d ≡ c + 1 → m ≡ size
        → Writing k l at text₀ z r d m others
    more puts-label puts-colon puts-numbers next same =
        let label = puts-label.written (omega (arith, room)) in
        let colon = puts-colon.written (omega (arith, room, label.next, writes_length label)) in
        let numbers = puts-numbers.written (omega (arith, room, label.next, writes_length label, colon.next, writes_length colon)) in
        rw next
        (record {
          frames = w.frames;
          words = same ∙ w.words;
          others = tick_others k l c words others (sym w.others ∙ chunk.parts) whole;
          left = left_more (left_more (left_more w.left this label) refl colon) refl numbers;
        })

  done : length rest ≡ 0 → Writes (tick_lines k l) at text₀ text place
  done none =
      let over : length l / 2 ^ k < suc c = lt_of_mul-lt-mul_right (2 ^ k) (omega (arith, none, w.frames.whole, ap length w.others, length-drop (c * 2 ^ k) l, suc-mul c (2 ^ k), pow_pos k)) in
      left_done w.left (ticks_done k l c (omega (arith, over)))

pub loop-c-preserved : goal.loop-c-preserved
loop-c-preserved c =
    let ((same, (parts, many, some)), this, next, _) = c.in-Some.ensures.steps in
    more c.loop-c.invariant (record { parts = parts; many = many; some = some }) (rw this at c.put_number-place.ensures) c.put_bytes-place.ensures c.put_line-place.ensures next same

pub returns : goal.returns
returns c = done c.loop-c.invariant c.in-None.ensures.steps.0.1.0
