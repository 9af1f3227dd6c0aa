-- The order card (01, 'The order card').
--   longest            "at most 128 bytes"
--   fewest_numbers      "fewer than two numbers is 15"
--   IsCard b ns        b is a card, and ns are its numbers: "n, k, the columns"
--   Readable b         b is a card
-- What a card says is said for every decision d of whether it is readable: that is the same numbers for each, since no bytes are the row of two lists.
--   numbers_on d        the numbers on the card; none where it is unreadable
--   n_on d, k_on d, columns_on d      n, k and the columns
--   unreadable d       15: order card unreadable
--   IsOn d c           c is what the card says: n, k, and the columns
--   ReadsAs d r        r says what the card says: 15 where it is unreadable, else n, k, and the columns
--   Reads b r          what is read of the card b
--   card_table e d beside           15, then 1 to 4, of the order on the card, where beside are the lengths that were lent, and what they should be
use Rattle.std.specs.Prelude.{ℕ, ◌≤◌, ◌≡◌, List, [], ◌∷◌, length, get_or, drop, Result, IfOk}
use Rattle.kinds.specs.Edition.{Edition, Sized}
use Rattle.kinds.specs.Decisions.{sized?}
use Rattle.kinds.specs.First.{Reason, unless, first_of}
use Rattle.kinds.specs.Refusal.{said}
use Rattle.kinds.specs.declared.Refusal.{Refusal}
use Rattle.kinds.specs.declared.Refusal.TheVariants.{Card}
use Rattle.kinds.specs.Lengths.{Wanted}
use Rattle.text.specs.Numbers.{IsRow}
use Rattle.order.specs.Table.{order_table}
use Rattle.card.specs.declared.Card.{Card as OrderCard}

abbrev pub longest : ℕ
longest = 128

abbrev pub fewest_numbers : ℕ
fewest_numbers = 2

pub record IsCard (b ns : List ℕ) : Type 0 where
  pub short : length b ≤ longest
  pub numbers : IsRow b ns
  pub enough : fewest_numbers ≤ length ns

abbrev pub Readable : List ℕ → Type 0
Readable b = (ns : List ℕ) × IsCard b ns

abbrev pub numbers_on : {b : List ℕ} → Dec (Readable b) → List ℕ
numbers_on (yes (ns, is)) = ns
numbers_on (no not) = []

abbrev pub n_on : {b : List ℕ} → Dec (Readable b) → ℕ
n_on d = get_or (numbers_on d) 0 0

abbrev pub k_on : {b : List ℕ} → Dec (Readable b) → ℕ
k_on d = get_or (numbers_on d) 1 0

abbrev pub columns_on : {b : List ℕ} → Dec (Readable b) → List ℕ
columns_on d = drop 2 (numbers_on d)

abbrev pub unreadable : {b : List ℕ} → Dec (Readable b) → Reason
unreadable {b} d = unless Card (Readable b) d

pub record IsOn {b : List ℕ} (d : Dec (Readable b)) (c : OrderCard) : Type 0 where
  pub n : c.n ≡ n_on d
  pub k : c.k ≡ k_on d
  pub columns : c.columns.items ≡ columns_on d

pub record ReadsAs {b : List ℕ} (d : Dec (Readable b)) (r : Result OrderCard Refusal) : Type 0 where
  pub answer : said r ≡ first_of (unreadable d ∷ [])
  pub card : IfOk r (IsOn d)

abbrev pub Reads : List ℕ → Result OrderCard Refusal → Type 0
Reads b r = (d : Dec (Readable b)) → ReadsAs d r

abbrev pub card_table : {b : List ℕ} → Edition → Dec (Readable b) → List (ℕ × Wanted) → List Reason
card_table e d beside = unreadable d ∷ order_table (Sized e (n_on d) (k_on d)) (sized? e (n_on d) (k_on d)) (n_on d) (columns_on d) beside
