-- The four parts of an order (01): "P1 sends port bits to port bits, P2 tick bits to port bits, P3 port bits to tick bits, P4 tick bits to tick bits."
--   P1 k C p      the port at which the word of tick 0 and port p leaves
--   P2 k C c      the port at which the word of tick c and port 0 leaves
--   P3 k C p      the tick at which the word of tick 0 and port p leaves
--   P4 k C c      the tick at which the word of tick c and port 0 leaves
--   rows_of m l f  the m rows of the linear map f of l bits: "row r of a part is bit r of its result"
--   rows_p1 k C, rows_p2 n k C, rows_p3 n k C, rows_p4 n k C     the rows of each part
use Rattle.std.specs.Prelude.{ℕ, List}
use Rattle.kinds.specs.Frame.{tick_bits, tick_of, port_of, word_at}
use Rattle.bits.specs.Image.{columns}
use Rattle.span.specs.Rows.{rows}
use Rattle.order.specs.Order.{place}

abbrev pub P1 : ℕ → List ℕ → ℕ → ℕ
P1 k C p = port_of k (place C (word_at k 0 p))

abbrev pub P2 : ℕ → List ℕ → ℕ → ℕ
P2 k C c = port_of k (place C (word_at k c 0))

abbrev pub P3 : ℕ → List ℕ → ℕ → ℕ
P3 k C p = tick_of k (place C (word_at k 0 p))

abbrev pub P4 : ℕ → List ℕ → ℕ → ℕ
P4 k C c = tick_of k (place C (word_at k c 0))

abbrev pub rows_of : ℕ → ℕ → (ℕ → ℕ) → List ℕ
rows_of m l f = rows m (columns l f)

abbrev pub rows_p1 : ℕ → List ℕ → List ℕ
rows_p1 k C = rows_of k k (P1 k C)

abbrev pub rows_p2 : ℕ → ℕ → List ℕ → List ℕ
rows_p2 n k C = rows_of k (tick_bits n k) (P2 k C)

abbrev pub rows_p3 : ℕ → ℕ → List ℕ → List ℕ
rows_p3 n k C = rows_of (tick_bits n k) k (P3 k C)

abbrev pub rows_p4 : ℕ → ℕ → List ℕ → List ℕ
rows_p4 n k C = rows_of (tick_bits n k) (tick_bits n k) (P4 k C)
