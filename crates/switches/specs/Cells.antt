-- Which cell each word has, on either side of a sheet (01, 'What a sheet holds').
--   address_at k S c p        the address of the word at tick c, port p: "the address columns applied to c*2^k + p"
--   bank_at S c p             the bank of that word: it "starts as the wiring applied to p", and goes through the stages
--   cell_at k S c p           its cell: "address*2^k + bank"
--   cell_of k S i             a side's map: the cell of word i
--   M e n k s, N e n k s     "this map M on the write side and N on the read side", of the sheet s
--   cell_columns n k S        the columns of a side's map
--   port_to_bank k f p         the port-to-bank part of a map f of words to cells: the bank of the word at tick 0, port p
--   tick_to_bank k f c         its tick-to-bank part: the bank of the word at tick c, port 0
use Rattle.std.specs.Prelude.{ℕ, ◌+◌, ◌*◌, ◌^◌, List}
use Rattle.kinds.specs.Edition.{Edition}
use Rattle.kinds.specs.Frame.{tick_of, port_of, word_at, bank_of}
use Rattle.bits.specs.Image.{image, columns}
use Rattle.sheet.specs.Sheet.{Side, write_side, read_side}
use Rattle.switches.specs.Stages.{bank_after}

abbrev pub address_at : ℕ → Side → ℕ → ℕ → ℕ
address_at k S c p = image S.addresses (word_at k c p)

abbrev pub bank_at : Side → ℕ → ℕ → ℕ
bank_at S c p = bank_after S.stages c (image S.wiring p)

abbrev pub cell_at : ℕ → Side → ℕ → ℕ → ℕ
cell_at k S c p = address_at k S c p * 2 ^ k + bank_at S c p

abbrev pub cell_of : ℕ → Side → ℕ → ℕ
cell_of k S i = cell_at k S (tick_of k i) (port_of k i)

abbrev pub M : Edition → ℕ → ℕ → List ℕ → ℕ → ℕ
M e n k s = cell_of k (write_side e n k s)

abbrev pub N : Edition → ℕ → ℕ → List ℕ → ℕ → ℕ
N e n k s = cell_of k (read_side e n k s)

abbrev pub cell_columns : ℕ → ℕ → Side → List ℕ
cell_columns n k S = columns n (cell_of k S)

abbrev pub port_to_bank : ℕ → (ℕ → ℕ) → ℕ → ℕ
port_to_bank k f p = bank_of k (f (word_at k 0 p))

abbrev pub tick_to_bank : ℕ → (ℕ → ℕ) → ℕ → ℕ
tick_to_bank k f c = bank_of k (f (word_at k c 0))
