-- A column of a port bit has the wiring's bank, one of a tick bit the stages'.
use Rattle.std.proofs.Common.{ℕ, ◌≡◌, ◌+◌, ◌-◌, ◌*◌, ◌%◌, ◌^◌, ◌≤◌, ◌<◌, sym, ap, ap₂, ◌∙◌, List, get_or, arith}
use Rattle.kinds.specs.Frame.{tick_of, port_of}
use Rattle.sheet.specs.Sheet.{Side}
use Rattle.sheet.specs.declared.Stage.{Stage}
use Rattle.switches.specs.Stages.{bank_after}
use Rattle.switches.specs.Cells.{cell_of}
use Rattle.bits.specs.Padded.{array_width}
use Rattle.maps.specs.Opened.{Shows}
use Rattle.maps.specs.Inside.{IsColumn}
use Rattle.maps.specs.declared.OpenSide.{OpenSide}
use Rattle.switches.proofs.CellLaws.{port_column, tick_column}
use Rattle.maps.proofs.OpenLaws.{shown_k, shown_addresses, shown_wiring, shown_stages, whole_number}
use Rattle.maps.proofs.OpenSide.column.Goals as goal

module _ (o : OpenSide) (j : ℕ) where
  abbrev at : ℕ
  at = j % array_width

  shown : (cs ds : List ℕ) → ((l : ℕ) → get_or cs l 0 ≡ get_or ds l 0) → j < array_width → get_or cs at 0 ≡ get_or ds j 0
  shown cs ds same small = ap (λ (x : ℕ). get_or cs x 0) (omega arith) ∙ same j

  -- the number that the code makes of a column's address and bank
  made : {n k : ℕ} {S : Side} {a b r : ℕ} (b' : ℕ) → Shows n k o S → j < array_width → r ≡ (a * 2 ^ o.k + b) % 2 ^ array_width → a ≡ get_or o.addresses at 0 → b ≡ b'
      → cell_of k S (2 ^ j) ≡ get_or S.addresses j 0 * 2 ^ k + b' → r ≡ cell_of k S (2 ^ j)
  made {k = k} {S} {a} {b} b' h small e address bank column =
      e
      ∙ whole_number h a b (tick_of k (2 ^ j)) (port_of k (2 ^ j))
      (ap₂ (λ (x y : ℕ). x * 2 ^ k + y) (address ∙ shown o.addresses S.addresses (shown_addresses h) small) bank ∙ sym column)

  port : {a b r : ℕ} → at < o.k → a ≡ get_or o.addresses at 0 → b ≡ get_or o.wiring at 0 → r ≡ (a * 2 ^ o.k + b) % 2 ^ array_width → IsColumn o j r
  port low address wired e n k S h small =
      made (get_or S.wiring j 0) h small e address (wired ∙ shown o.wiring S.wiring (shown_wiring h) small) (port_column k S j (omega (arith, shown_k h)))

  tick : {ss : List Stage} {t a b r : ℕ} → o.k ≤ at → a ≡ get_or o.addresses at 0 → ss ≡ o.stages.items → t ≡ 2 ^ (at - o.k) → b ≡ bank_after ss t 0
      → r ≡ (a * 2 ^ o.k + b) % 2 ^ array_width → IsColumn o j r
  tick high address stages_are tick_is bank e n k S h small =
      made (bank_after S.stages (2 ^ (j - k)) 0) h small e address
      (bank
      ∙ ap₂ (λ (ss : List Stage) (c : ℕ). bank_after ss c 0) (stages_are ∙ shown_stages h)
      (tick_is ∙ ap (λ (x : ℕ). 2 ^ x) {x = at - o.k} {y = j - k} (omega (arith, shown_k h))))
      (tick_column k S j (omega (arith, shown_k h)))

pub returns-then-bit-self : goal.returns-then-bit-self
returns-then-bit-self c = port c.args.self.now c.args.j c.if-bit-self.true c.from.ensures c.from-wired.ensures c.cell_number.ensures

pub returns : goal.returns
returns c =
    tick c.args.self.now c.args.j c.if-bit-self.false c.from.ensures c.as_slice.ensures.value (c.two_to.ensures.fits (omega arith)) c.after_stages-bank.ensures
    c.cell_number-2.ensures
