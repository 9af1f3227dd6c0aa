-- The listing as a tool.
--   column_line c m         the line of 4, which names column c and the mask m: `refused 4 column 2 from 1` (02, R-8)
--   refusal_line x          "a refusal prints one line": of 4 that line, of any other its number, as `refused 15`
--   list_lengths t l        the lengths of the lent text buffer t and of the place l for the length of the text, and what is wanted of them
-- For every decision d of whether the card b is readable:
--   listing_of d            the text for the order on the card
--   text_for o d            the text where nothing is refused; where the refusal o is given, its line
--   printed e d            what the program prints for the card: the text, or the refusal's line
--   Lists e b t t' l l' r  the tool: r is 15, or the lowest of 1 to 4 that applies; done, the text stands from the first place of t' on, the rest of t' is as it came, and l' is its length;
--                          refused, t' is t and l' is l
--   PrintsAs w t t' r      w is printed: it stands from the first place of t' on, the rest of t' is as it came, and r is its length
--   Prints e b t t' r      the program's text
use Rattle.std.specs.Prelude.{ℕ, ◌≡◌, cond, List, [], ◌∷◌, ◌++◌, eqb, length, get_or, Result}
use Rattle.std.proofs.Math.Option.{Option, none, some}
use Rattle.kinds.specs.Answers.{Answers, over_front}
use Rattle.kinds.specs.Edition.{Edition}
use Rattle.kinds.specs.First.{first_of}
use Rattle.kinds.specs.Refusal.{number_of, values_of, said}
use Rattle.kinds.specs.declared.Refusal.{Refusal}
use Rattle.kinds.specs.Lengths.{Wanted, exactly, at_least}
use Rattle.text.specs.Decimal.{codes, decimal}
use Rattle.card.specs.Card.{Readable, n_on, k_on, columns_on, card_table}
use Rattle.lines.specs.Line.{line}
use Rattle.listed.specs.Listing.{listing}
use Rattle.listed.specs.Tool.{text_places}

abbrev pub column_line : ℕ → ℕ → List ℕ
column_line c m = codes "refused 4 column " ++ (decimal c ++ line (codes " from") (m ∷ []))

abbrev pub refusal_line : Refusal → List ℕ
refusal_line x = cond (eqb (number_of x) 4) (column_line (get_or (values_of x) 0 0) (get_or (values_of x) 1 0)) (line (codes "refused") (number_of x ∷ []))

abbrev pub list_lengths : List ℕ → List ℕ → List (ℕ × Wanted)
list_lengths t l = (length t, at_least text_places) ∷ (length l, exactly 1) ∷ []

abbrev pub listing_of : {b : List ℕ} → Dec (Readable b) → List ℕ
listing_of d = listing (n_on d) (k_on d) (columns_on d)

abbrev pub Lists : Edition → List ℕ → List ℕ → List ℕ → List ℕ → List ℕ → Result Unit Refusal → Type 0
Lists e b t t' l l' r =
    (d : Dec (Readable b))
    → Answers (card_table e d (list_lengths t l)) (said r) ((t' ≡ over_front (listing_of d) t) × (l' ≡ length (listing_of d) ∷ [])) ((t' ≡ t) × (l' ≡ l))

abbrev pub text_for : {b : List ℕ} → Option Refusal → Dec (Readable b) → List ℕ
text_for none d = listing_of d
text_for (some x) d = refusal_line x

abbrev pub printed : {b : List ℕ} → Edition → Dec (Readable b) → List ℕ
printed e d = text_for (first_of (card_table e d [])) d

pub record PrintsAs (w t t' : List ℕ) (r : ℕ) : Type 0 where
  pub length_of : r ≡ length w
  pub text : t' ≡ over_front w t

abbrev pub Prints : Edition → List ℕ → List ℕ → List ℕ → ℕ → Type 0
Prints e b t t' r = (d : Dec (Readable b)) → PrintsAs (printed e d) t t' r
