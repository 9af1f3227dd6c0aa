-- The lines of a listing.
--   ticks_from k l c   the lines of the frame l from tick c on
--   ticks_more        the line of tick c, and those after it
--   ticks_done        there is none after the last
--   tick_words        where the words of earlier ticks are dropped, as many words as a tick has are this tick's
--   tick_others       and those after them are the later ticks'
--   counted_stages_law    the count and the stages of a side, as they stand among its places
use Prim.Native.Char.{code}
use Prim.Native.Nat.{ℕ, suc, ◌+◌, ◌-◌, ◌*◌, ◌/◌, ◌^◌, ◌≤◌, ◌<◌}
use mathlib.Core.Path.{◌≡◌, sym, ap, ◌∙◌}
use mathlib.Core.List.{List, [], ◌∷◌, ◌++◌, append_assoc, flatten}
use native.Mathlib.Nat.{suc-mul}
use native.Mathlib.Numerals.{add-one}
use native.Mathlib.Omega.{arith}
use lib.ListN.{length, get_or, take, drop, replicate, get_or-append, drop_of_length-le}
use lib.Seq.{drop-cons, take_at, drop_at, drop-drop, get_or-drop}
use Rattle.kinds.specs.Frame.{in_order, word_at}
use Rattle.kinds.proofs.FrameLaws.{in_order_length, in_order_at, in_order_is}
use Rattle.text.specs.Decimal.{codes, decimal}
use Rattle.sheet.specs.Sheet.{flat}
use Rattle.sheet.specs.declared.Stage.{Stage}
use Rattle.bits.specs.Padded.{padded_to}
use Rattle.sheet.proofs.LayLaws.{flat_length}
use Rattle.promise.specs.Series.{words_of_tick}
use Rattle.lines.specs.Line.{line_end}
use Rattle.listed.specs.Listing.{tick_line}
use Rattle.listed.specs.Inside.{counted_stages}

module _ (k : ℕ) (l : List ℕ) where
  abbrev ticks : ℕ
  ticks = length l / 2 ^ k

  abbrev lines : List (List ℕ)
  lines = in_order ticks (tick_line k l)

  abbrev pub ticks_from : ℕ → List ℕ
  ticks_from c = flatten (drop c lines)

  module _ (c : ℕ) where
    lines_more : c < ticks → ticks_from c ≡ tick_line k l c ++ ticks_from (c + 1)
    unfolding flatten
    lines_more h =
        rw (drop-cons lines c [] (omega (arith, in_order_length ticks (tick_line k l))), in_order_at ticks (tick_line k l) [] c h, add-one, flatten)

    pub ticks_more : c < ticks → ticks_from c ≡ decimal c ++ (code ":" ∷ (line_end (words_of_tick k l c) ++ ticks_from (c + 1)))
    unfolding codes
    ticks_more h = lines_more h ∙ simp append_assoc

    pub ticks_done : ticks ≤ c → ticks_from c ≡ []
    unfolding flatten
    ticks_done h = rw (drop_of_length-le lines {i = c} (omega (arith, in_order_length ticks (tick_line k l))))

    module _ (words others : List ℕ) (parts : drop (c * 2 ^ k) l ≡ words ++ others) (many : length words ≡ 2 ^ k) where
      pub tick_words : words ≡ words_of_tick k l c
      tick_words =
          in_order_is (2 ^ k) (λ p. get_or l (word_at k c p) 0) 0 words many
          (λ p h. sym (get_or-append words others 0 p (omega (arith, many))) ∙ ap (λ (x : List ℕ). get_or x p 0) (sym parts) ∙ get_or-drop (c * 2 ^ k) l p 0)

      pub tick_others : others ≡ drop ((c + 1) * 2 ^ k) l
      tick_others =
          sym (drop_at words others (2 ^ k) many)
          ∙ ap (drop (2 ^ k)) (sym parts)
          ∙ drop-drop (2 ^ k) (c * 2 ^ k) l
          ∙ ap (λ (i : ℕ). drop i l) {x = c * 2 ^ k + 2 ^ k} {y = (c + 1) * 2 ^ k} (omega (arith, suc-mul c (2 ^ k)))

pub counted_stages_law : (ss : List Stage) → counted_stages (padded_to 17 (length ss ∷ flat ss)) ≡ length ss ∷ flat ss
counted_stages_law ss = take_at (length ss ∷ flat ss) (replicate (17 - suc (length (flat ss))) 0) (1 + 2 * length ss) (omega (arith, flat_length ss))
