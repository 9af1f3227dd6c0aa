-- What a call does to the memory. A cell is named by its place in the memory; one beyond it is empty, has the word 0, and nothing is put there.
-- Which cells a call writes and reads is not said here: nothing in this file knows of sheets.
--   Memory               the words, and a mark for each
--   filled_marks l        how many marks of l say filled
--   stored cs ws m       the memory after the words ws went to the cells cs, "each with mark 1"
--   emptied cs m         the memory after the cells cs were emptied: "mark 0, the stored word left as it is"
--   words_at cs l         the words in the cells cs, where l is the words of the memory
--   Access               what a call does: which cells it writes, by port, with which words, and which cells it reads, by port
--   served A m           the memory after the reads, and then the writes
--   Fitting writes came reads out      as many words as cells to be written, and a place of the out buffer for each that is read; the four are lengths
use Rattle.std.specs.Prelude.{ℕ, zero, suc, ◌≤◌, ◌≡◌, List, [], ◌∷◌, map, get_or}
use Rattle.faults.specs.Marks.{put, with_marks}

pub record Memory : Type 0 where
  pub words : List ℕ
  pub marks : List ℕ

unfoldable pub filled_marks : List ℕ → ℕ
filled_marks [] = 0
filled_marks (zero ∷ l) = filled_marks l
filled_marks (suc v ∷ l) = suc (filled_marks l)

abbrev pub stored : List ℕ → List ℕ → Memory → Memory
stored cs ws m = record { words = put cs ws m.words; marks = with_marks 1 cs m.marks }

abbrev pub emptied : List ℕ → Memory → Memory
emptied cs m = record { words = m.words; marks = with_marks 0 cs m.marks }

abbrev pub words_at : List ℕ → List ℕ → List ℕ
words_at cs l = map (λ x. get_or l x 0) cs

pub record Access : Type 0 where
  pub writes : List ℕ
  pub words : List ℕ
  pub reads : List ℕ

abbrev pub served : Access → Memory → Memory
served A m = stored A.writes A.words (emptied A.reads m)

pub record Fitting (writes came reads out : ℕ) : Type 0 where
  pub a_word_each : came ≡ writes
  pub room : reads ≤ out
