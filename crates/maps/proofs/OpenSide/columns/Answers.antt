use Rattle.std.proofs.Common.{ℕ, ◌≡◌, ◌+◌, ◌^◌, ◌<◌, ◌∙◌, sym, List, length, get_or, set, arith}
use native.Mathlib.Decide.{dec_lt}
use lib.ListN.{get_or-eq_default}
use Rattle.sheet.specs.Sheet.{Side}
use Rattle.bits.specs.Padded.{array_width, padded}
use Rattle.bits.proofs.ImageLaws.{columns_length, columns_at}
use Rattle.bits.proofs.PaddedLaws.{padded_length, padded_at}
use Rattle.bits.proofs.FillLaws.{fill_none, fill_more, fill_whole}
use Rattle.switches.specs.Cells.{cell_of, cell_columns}
use Rattle.switches.proofs.CellLaws.{column_beyond}
use Rattle.maps.specs.Opened.{Shows}
use Rattle.maps.specs.Inside.{IsColumn}
use Rattle.maps.specs.declared.OpenSide.{OpenSide}
use Rattle.maps.proofs.OpenSide.columns.Invariants.{Filling}
use Rattle.maps.proofs.OpenSide.columns.Goals as goal

module _ {n k : ℕ} {o : OpenSide} {S : Side} (h : Shows n k o S) where
  abbrev C : List ℕ
  C = cell_columns n k S

  count : length C ≡ n
  count = columns_length n (cell_of k S)

  places : length (padded C) ≡ array_width
  places = padded_length array_width C (omega (arith, count, h.words))

  shown : (j : ℕ) → cell_of k S (2 ^ j) ≡ get_or (padded C) j 0
  shown j = elim (dec_lt j n) [
    | yes b ↦ sym (padded_at array_width C j ∙ columns_at n (cell_of k S) j b)
    | no b ↦ column_beyond h.used h.ports h.addresses j (omega arith) ∙ sym (padded_at array_width C j ∙ get_or-eq_default C 0 (omega (arith, count)))
  ]

more : {o : OpenSide} {r : List ℕ} {j v : ℕ} → Filling o r j → j < array_width → IsColumn o j v → Filling o (set r j v) (j + 1)
more {j = j} i small column = record { each = λ n k S h. fill_more (i.each n k S h) (omega (arith, places h)) (column n k S h small ∙ shown h j) }

pub loop-j-init : goal.loop-j-init
loop-j-init c = record { each = λ n k S h. fill_none (omega (arith, places h)) }

pub loop-j-preserved : goal.loop-j-preserved
loop-j-preserved c = more c.loop-j.invariant c.loop-j-test.true c.column.ensures
