-- When a run is right (the third demand): "from a fresh start, over every series of frames and blank ticks and every content of the words, no two written words and no two read words want one bank in a
-- tick, no unread word is overwritten, no empty cell is read, and each word of a completed frame leaves at its due tick and place". Orders and maps may differ from frame to frame; a sheet has the same for all.
--   LeavesBy A m p w            the word w leaves at port p, where A is what a call does and m the memory before it: a cell is read for that port, and has the word
--   RightRun n k P A m S        these five, over the series S: A j is what call j does to the memory, m j the memory before it, and P F the order of frame F. A word that is due after the series has ended need
--                               not have left
--   RightFrom n k P f g x S     they hold of the run that starts at x and refuses nothing, where f F i is the cell to which word i of frame F is written, and g F q the cell that is read for its place q
--   Right e n k C s             the sheet s is right for the order C: so it is from every fresh start, over every series, whatever the words that come and those in the memory
use Rattle.std.specs.Prelude.{ℕ, ◌^◌, ◌<◌, ◌≡◌, List, length, get_or}
use Rattle.kinds.specs.Edition.{Edition}
use Rattle.order.specs.Order.{place}
use Rattle.switches.specs.Cells.{M, N}
use Rattle.faults.specs.Faults.{Clash, SomeFilled, SomeEmpty}
use Rattle.memory.specs.Memory.{Memory, Access}
use Rattle.promise.specs.Series.{Series, word_in, CompletedIn, due_call, due_port}
use Rattle.promise.specs.Run.{Stand, Fresh, standing, access_in, carried}

abbrev pub LeavesBy : Access → Memory → ℕ → ℕ → Type 0
LeavesBy A m p w = (p < length A.reads) × (get_or m.words (get_or A.reads p 0) 0 ≡ w)

pub record RightRun (n k : ℕ) (P : ℕ → ℕ → ℕ) (A : ℕ → Access) (m : ℕ → Memory) (S : List (List ℕ)) : Type 0 where
  pub no_two_written : (j : ℕ) → j < length S → ¬ Clash k (A j).writes
  pub no_two_read : (j : ℕ) → j < length S → ¬ Clash k (A j).reads
  pub none_overwritten : (j : ℕ) → j < length S → ¬ SomeFilled (m j).marks (A j).writes
  pub none_empty : (j : ℕ) → j < length S → ¬ SomeEmpty (m j).marks (A j).reads
  pub leaves : (F T i j : ℕ) → CompletedIn n S F T → i < 2 ^ n → j ≡ due_call 0 k (P F) T i → j < length S → LeavesBy (A j) (m j) (due_port k (P F) i) (word_in n S F i)

abbrev pub RightFrom : ℕ → ℕ → (ℕ → ℕ → ℕ) → (ℕ → ℕ → ℕ) → (ℕ → ℕ → ℕ) → Stand → List (List ℕ) → Type 0
RightFrom n k P f g x S = let at : ℕ → Stand = standing (carried n k f g S) x in RightRun n k P (λ j. access_in n k f g S j (at j)) (λ j. (at j).memory) S

pub record Right (e : Edition) (n k : ℕ) (C s : List ℕ) : Type 0 where
  pub over : (x : Stand) (S : List (List ℕ)) → Fresh n k x → Series k S → RightFrom n k (λ F. place C) (λ F. M e n k s) (λ F. N e n k s) x S
