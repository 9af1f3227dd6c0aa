-- A side of a sheet that was opened: checked once, and then asked as often as one likes.
--   open_stages                   an opened side has room for 8 stages
--   opened k S                   the side S, opened
--   Shows n k o S                o is the side S, opened: S has n address columns, k wiring columns and at most open_stages stages, all in range
--   closed                       the side with nothing on it, opened
--   ShowsBoth e n k s o          o is both sides of the sheet s, opened
--   Opens e n k s fits r         opening the sheet s: r has the lowest of 1, 2 and 5 that applies, fits as in `Checks`; where none does, r shows both sides
--   readdressed B S              the side S with the address columns B in place of its own
--   Addressable k A              the columns A may be the addresses of a side with k wiring columns: no cell's number then has more than 16 bits
--   Readdresses o A r            r is o with the address columns A, if they may be; else o. Where o shows a side, and A is n columns in range, and zeros after them, r shows that side with these
--   IsAddress o c p r            r is the address of the word at tick c, port p, on whichever side o shows
--   IsBank o c p r               r is its bank
--   IsCell o c p r               r is its cell
--   IsWiring o r                 r is the wiring columns of that side, and zeros after them
--   SaysSurplus o r              r says whether that side has more stages than the rank of its tick-to-bank part
--   AreColumns o r               r is the columns of that side's map, and zeros after them
--   ListsCells o c out out' r    all cells of one tick into a lent buffer, which has 2^k places or is refused: done, out' is these, by port; refused, out as it came
use Rattle.std.specs.Prelude.{ℕ, ◌-◌, ◌^◌, ◌≤◌, ◌≡◌, Bool, List, [], ◌∷◌, length, Result, IfOk}
use Rattle.kinds.specs.Edition.{Edition}
use Rattle.kinds.specs.Frame.{tick_bits, in_order}
use Rattle.kinds.specs.Refusal.{said}
use Rattle.kinds.specs.Reasons.{wrong_length}
use Rattle.kinds.specs.Answers.{Says, Checks, Answers}
use Rattle.kinds.specs.declared.Refusal.{Refusal}
use Rattle.kinds.specs.Lengths.{exactly}
use Rattle.bits.specs.Image.{AllBelow}
use Rattle.sheet.specs.Sheet.{Side, write_side, read_side}
use Rattle.bits.specs.Padded.{array_width, padded}
use Rattle.sheet.specs.Layout.{InRange}
use Rattle.sheet.specs.Table.{sheet_table}
use Rattle.switches.specs.Cells.{address_at, bank_at, cell_at, cell_columns}
use Rattle.switches.specs.Surplus.{Surplus}
use Rattle.maps.specs.declared.OpenSide.{OpenSide}
use Rattle.maps.specs.declared.Sides.{Sides}

abbrev pub open_stages : ℕ
open_stages = 8

abbrev pub opened : ℕ → Side → OpenSide
opened k S = record { k = k; addresses = padded S.addresses; wiring = padded S.wiring; stages = record { items = S.stages } }

pub record Shows (n k : ℕ) (o : OpenSide) (S : Side) : Type 0 where
  pub is : o ≡ opened k S
  pub ports : k ≤ n
  pub words : n ≤ array_width
  pub addresses : length S.addresses ≡ n
  pub wiring : length S.wiring ≡ k
  pub stages : length S.stages ≤ open_stages
  pub used : InRange n k S

abbrev pub closed : OpenSide
closed = opened 0 (record { addresses = []; wiring = []; stages = [] })

pub record ShowsBoth (e : Edition) (n k : ℕ) (s : List ℕ) (o : Sides) : Type 0 where
  pub write : Shows n k o.write (write_side e n k s)
  pub read : Shows n k o.read (read_side e n k s)

pub record Opens (e : Edition) (n k : ℕ) (s : List ℕ) (fits : Bool) (r : Result Sides Refusal) : Type 0 where
  pub answer : Checks (sheet_table e n k s) fits r
  pub sides : IfOk r (ShowsBoth e n k s)

abbrev pub readdressed : List ℕ → Side → Side
readdressed B S = record { addresses = B; wiring = S.wiring; stages = S.stages }

pub record Addressable (k : ℕ) (A : List ℕ) : Type 0 where
  pub ports : k ≤ array_width
  pub below : AllBelow (2 ^ (array_width - k)) A

pub record Readdresses (o : OpenSide) (A : List ℕ) (r : OpenSide) : Type 0 where
  pub taken : Addressable o.k A → r ≡ record { k = o.k; addresses = A; wiring = o.wiring; stages = o.stages }
  pub kept : ¬ Addressable o.k A → r ≡ o
  pub shows : (n k : ℕ) (S : Side) (B : List ℕ) → Shows n k o S → A ≡ padded B → length B ≡ n → AllBelow (2 ^ tick_bits n k) B → Shows n k r (readdressed B S)

abbrev pub IsAddress : OpenSide → ℕ → ℕ → ℕ → Type 0
IsAddress o c p r = (n k : ℕ) (S : Side) → Shows n k o S → r ≡ address_at k S c p

abbrev pub IsBank : OpenSide → ℕ → ℕ → ℕ → Type 0
IsBank o c p r = (n k : ℕ) (S : Side) → Shows n k o S → r ≡ bank_at S c p

abbrev pub IsCell : OpenSide → ℕ → ℕ → ℕ → Type 0
IsCell o c p r = (n k : ℕ) (S : Side) → Shows n k o S → r ≡ cell_at k S c p

abbrev pub IsWiring : OpenSide → List ℕ → Type 0
IsWiring o r = (n k : ℕ) (S : Side) → Shows n k o S → r ≡ padded S.wiring

abbrev pub SaysSurplus : OpenSide → Bool → Type 0
SaysSurplus o r = (n k : ℕ) (S : Side) → Shows n k o S → Says r (Surplus (tick_bits n k) S.stages)

abbrev pub AreColumns : OpenSide → List ℕ → Type 0
AreColumns o r = (n k : ℕ) (S : Side) → Shows n k o S → r ≡ padded (cell_columns n k S)

abbrev pub ListsCells : OpenSide → ℕ → List ℕ → List ℕ → Result Unit Refusal → Type 0
ListsCells o c out out' r =
    (n k : ℕ) (S : Side) → Shows n k o S
    → Answers (wrong_length ((length out, exactly (2 ^ k)) ∷ []) ∷ []) (said r) (out' ≡ in_order (2 ^ k) (cell_at k S c)) (out' ≡ out)
