-- The run over a series S of calls, where nothing is refused (01, 'One tick of the run'). f F i is the cell to which word i of frame F is written, and g F q the cell that is read for its place q.
--   standing after x j        where a run that starts at x stands before call j, where after j y is where it stands after call j, made from y; for any kind of stand
--   Stand                     where the run of a sheet stands between two calls: the state, and the memory
--   Fresh n k x               "marks zero, nothing coming in, half 0, reader idle". 2^(n+1) words are lent and as many marks; the words may be any
--   incoming n S j            the frame that comes in at call j
--   outgoing n S j            the frame before it: what is read in call j, if anything is left to read, is of this one. A sheet has the same maps for all frames, so that neither matters there
--   access_in n k f g S j y    what call j, made from y, does to the memory
--   carried n k f g S j y     where the run stands after it
use Rattle.std.specs.Prelude.{ℕ, zero, suc, ◌+◌, ◌-◌, ◌/◌, ◌^◌, ◌≡◌, List, length}
use Rattle.kinds.specs.Frame.{ticks}
use Rattle.bits.specs.Image.{AllBelow}
use Rattle.sheet.specs.Layout.{AllZero}
use Rattle.state.specs.States.{next}
use Rattle.state.specs.declared.State.{State}
use Rattle.memory.specs.Memory.{Memory, Access, served}
use Rattle.call.specs.Call.{access_of}
use Rattle.promise.specs.Series.{call_at, words_before}

unfoldable pub standing : {Y : Type 0} → (ℕ → Y → Y) → Y → ℕ → Y
standing after x zero = x
standing after x (suc j) = after j (standing after x j)

pub record Stand : Type 0 where
  pub state : State
  pub memory : Memory

pub record Fresh (n k : ℕ) (x : Stand) : Type 0 where
  pub words_lent : length x.memory.words ≡ 2 ^ (n + 1)
  pub words : AllBelow (2 ^ 32) x.memory.words
  pub marks_lent : length x.memory.marks ≡ 2 ^ (n + 1)
  pub marks_zero : AllZero x.memory.marks
  pub nothing_coming : x.state.a ≡ 0
  pub half : x.state.h ≡ 0
  pub idle : x.state.r ≡ ticks n k

abbrev pub incoming : ℕ → List (List ℕ) → ℕ → ℕ
incoming n S j = words_before S j / 2 ^ n

abbrev pub outgoing : ℕ → List (List ℕ) → ℕ → ℕ
outgoing n S j = incoming n S j - 1

module _ (n k : ℕ) (f g : ℕ → ℕ → ℕ) (S : List (List ℕ)) (j : ℕ) (y : Stand) where
  abbrev pub access_in : Access
  access_in = access_of n k (f (incoming n S j)) (g (outgoing n S j)) y.state (call_at S j)

  abbrev pub carried : Stand
  carried = record { state = next (ticks n k) y.state (call_at S j); memory = served access_in y.memory }
