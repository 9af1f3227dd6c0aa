-- A number read byte by byte.
--   more v c               v with the digit c after it
--   GoesOn seen v c        c is one digit more of a number whose `seen` digits make v: there is no leading zero, and the number stays small enough
--   digits seen v          the digits that were read
--   Sofar seen v           they make 0 before the first, and never too much
--   digits_more            one digit more
--   digits_on              where a number goes on with a byte, it goes on as GoesOn says
--   digits_stop            where a digit comes with which no number goes on, the reading stops there
--   digits_none            where no digit comes at all, it stops at once
--   digits_end             where no digit comes after some, they are the number
--   digits_unique          bytes start with the digits of one number at most
--   stops_unique           and the reading stops at one place
--   ending_low             what ends a number is no digit
--   begins_digits          a number that a space or the newline ends has its digits there
--   digits_begin           and the other way round
--   begins_unique          bytes begin with one number at most
--   Outcome b              b starts with the digits of a number, or the reading stops
--   outcome b              which of them, and with which number, or where
--   begins? b              whether b begins with a number, and with which
use Prim.Native.Nat.{ℕ, zero, suc, ◌+◌, ◌-◌, ◌*◌, ◌/◌, ◌%◌, ◌<◌, ◌≤◌, min}
use mathlib.Core.Path.{◌≡◌, refl, sym, ap, ap₂, subst, ◌∙◌}
use mathlib.Core.List.{List, [], ◌∷◌, ◌++◌, append-nil, append_assoc}
use mathlib.Core.Logic.{◌⊎◌, inl, inr}
use native.Mathlib.Decide.{ℕ_discrete, dec_le, dec_lt}
use native.Mathlib.Omega.{arith}
use lib.ListN.{length, get_or, take, drop, length-append, take-append-drop, get_or-append}
use lib.Seq.{append_snoc, take_at, drop_at, take-take}
use Rattle.kinds.specs.Decided.{both}
use Rattle.text.specs.Decimal.{digit, decimal}
use Rattle.text.specs.Number.{greatest_number, IsDigit, NoDigit, Digits, Starts, Stops}
use Rattle.text.specs.Numbers.{ending, Begins}
use Rattle.text.proofs.DecimalLaws.{decimal_small, decimal_more, decimal_some}

abbrev pub more : ℕ → ℕ → ℕ
more v c = 10 * v + (c - digit 0)

abbrev pub GoesOn : ℕ → ℕ → ℕ → Type 0
GoesOn seen v c = IsDigit c × ((min 1 seen ≤ v) × (more v c ≤ greatest_number))

abbrev digit? : (c : ℕ) → Dec (IsDigit c)
digit? c = both (dec_le (digit 0) c) (dec_le c (digit 9))

abbrev goes_on? : (seen v c : ℕ) → Dec (GoesOn seen v c)
goes_on? seen v c = both (digit? c) (both (dec_le (min 1 seen) v) (dec_le (more v c) greatest_number))

abbrev pub digits : ℕ → ℕ → List ℕ
digits zero v = []
digits (suc seen) v = decimal v

abbrev pub Sofar : ℕ → ℕ → Type 0
Sofar seen v = v ≤ greatest_number * min 1 seen

-- ---- the bytes of a decimal are digits

abbrev AllDigits : List ℕ → Type 0
AllDigits [] = Unit
AllDigits (c ∷ b) = IsDigit c × AllDigits b

all_append : (p q : List ℕ) → AllDigits p → AllDigits q → AllDigits (p ++ q)
all_append [] q a b = b
all_append (c ∷ p) q (d, a) b = (d, all_append p q a b)

all_here : (p : List ℕ) (c : ℕ) (q : List ℕ) → AllDigits (p ++ (c ∷ q)) → IsDigit c
all_here [] c q (d, _) = d
all_here (x ∷ p) c q (_, a) = all_here p c q a

decimal_digits : (m x : ℕ) → x < m → AllDigits (decimal x)
decimal_digits zero x h = absurd (omega arith)
decimal_digits (suc m) x h = elim (dec_lt x 10) [
  | yes low ↦ rw (decimal_small x low) ((omega arith, omega arith), tt)
  | no high ↦
      rw (decimal_more x (omega arith))
      (all_append (decimal (x / 10)) (digit (x % 10) ∷ []) (decimal_digits m (x / 10) (omega arith)) ((omega arith, omega arith), tt))
]

number_digits : (x : ℕ) → AllDigits (decimal x)
number_digits x = decimal_digits (suc x) x (omega arith)

-- digits p, and no digit after q: q has all of p
reach : (p r q s : List ℕ) → AllDigits p → NoDigit s → p ++ r ≡ q ++ s → (m : List ℕ) × (q ≡ p ++ m)
reach [] r q s a n e = (q, refl)
reach (c ∷ p) r [] s (d, a) n e = absurd (subst NoDigit (sym e) n d)
reach (c ∷ p) r (x ∷ q) s (d, a) n e =
    let (m, same) = reach p r q s a n (ap (drop 1) e) in
    (m, ap₂ (λ (y : ℕ) (l : List ℕ). y ∷ l) (sym (ap (λ (l : List ℕ). get_or l 0 0) e)) same)

-- ---- the value of digits

unfoldable value : ℕ → List ℕ → ℕ
value v [] = v
value v (c ∷ b) = value (more v c) b

value_append : (v : ℕ) (p q : List ℕ) → value v (p ++ q) ≡ value (value v p) q
unfolding value
value_append v [] q = refl
value_append v (c ∷ p) q = value_append (more v c) p q

value_one : (v c : ℕ) → value v (c ∷ []) ≡ more v c
unfolding value
value_one v c = refl

value_grows : (v : ℕ) (b : List ℕ) → v ≤ value v b
unfolding value
value_grows v [] = omega arith
value_grows v (c ∷ b) = omega (arith, value_grows (more v c) b)

decimal_value : (m x : ℕ) → x < m → value 0 (decimal x) ≡ x
decimal_value zero x h = absurd (omega arith)
decimal_value (suc m) x h = elim (dec_lt x 10) [
  | yes low ↦ ap (value 0) (decimal_small x low) ∙ value_one 0 (digit x) ∙ omega arith
  | no high ↦
      ap (value 0) (decimal_more x (omega arith))
      ∙ value_append 0 (decimal (x / 10)) (digit (x % 10) ∷ [])
      ∙ value_one (value 0 (decimal (x / 10))) (digit (x % 10))
      ∙ omega (arith, decimal_value m (x / 10) (omega arith))
]

number_value : (x : ℕ) → value 0 (decimal x) ≡ x
number_value x = decimal_value (suc x) x (omega arith)

-- only 0 starts with 0
lead : (m x : ℕ) → x < m → 1 ≤ x → digit 1 ≤ get_or (decimal x) 0 0
lead zero x h some = absurd (omega arith)
lead (suc m) x h some = elim (dec_lt x 10) [
  | yes low ↦ rw (decimal_small x low) (omega arith)
  | no high ↦
      rw (decimal_more x (omega arith), get_or-append (decimal (x / 10)) (digit (x % 10) ∷ []) 0 0 (decimal_some (x / 10)))
      (lead m (x / 10) (omega arith) (omega arith))
]

-- ---- digits that were read

pub digits_more : (seen v c : ℕ) → Sofar seen v → GoesOn seen v c → digits seen v ++ (c ∷ []) ≡ decimal (more v c)
digits_more zero v c h g = sym (decimal_small (more v c) (omega arith) ∙ ap (λ (d : ℕ). d ∷ []) (omega arith))
digits_more (suc seen) v c h g =
    sym (decimal_more (more v c) (omega arith) ∙ ap₂ (λ (x d : ℕ). decimal x ++ (d ∷ [])) (omega arith) (omega arith))

digits_value : (seen v : ℕ) → Sofar seen v → value 0 (digits seen v) ≡ v
unfolding value
digits_value zero v h = omega arith
digits_value (suc seen) v h = number_value v

digits_all : (seen v : ℕ) → AllDigits (digits seen v)
digits_all zero v = tt
digits_all (suc seen) v = number_digits v

-- no leading zero
unled : (seen v c : ℕ) (m : List ℕ) (w : ℕ) → digits seen v ++ (c ∷ m) ≡ decimal w → min 1 seen ≤ v
unled zero v c m w e = omega arith
unled (suc seen) v c m w e = elim (dec_lt v 1) [
  | yes none ↦
      let here : digit 0 ∷ c ∷ m ≡ decimal w = ap (λ (l : List ℕ). l ++ (c ∷ m)) (sym (decimal_small v (omega arith) ∙ ap (λ (x : ℕ). digit x ∷ []) {x = v} {y = 0} (omega arith))) ∙ e in
      elim (dec_lt w 1) [
        | yes zero_too ↦ absurd (omega (arith, ap length here, ap length (decimal_small w (omega arith))))
        | no some ↦ absurd (omega (arith, ap (λ (l : List ℕ). get_or l 0 0) here, lead (suc w) w (omega arith) (omega arith)))
      ]
  | no some ↦ omega arith
]

pub digits_on : (seen v c : ℕ) → Sofar seen v → Starts (digits seen v ++ (c ∷ [])) → GoesOn seen v c
digits_on seen v c h (w, m, small, same) =
    let there : digits seen v ++ (c ∷ m) ≡ decimal w = sym (append_snoc (digits seen v) c m) ∙ same in
    let front = digits seen v ++ (c ∷ []) in
    let so_far : value 0 front ≡ more v c =
    value_append 0 (digits seen v) (c ∷ []) ∙ value_one (value 0 (digits seen v)) c ∙ ap (λ (x : ℕ). more x c) (digits_value seen v h) in
    let all : value 0 (front ++ m) ≡ w = ap (value 0) same ∙ number_value w in
    (all_here (digits seen v) c m (subst AllDigits (sym there) (number_digits w)), (unled seen v c m w there, omega (arith, so_far, all, value_append 0 front m, value_grows (value 0 front) m)))

digits_start : (seen v : ℕ) → Sofar seen v → Starts (digits seen v)
digits_start zero v h = (0, decimal 0, omega arith, refl)
digits_start (suc seen) v h = (v, [], omega arith, append-nil (decimal v))

stopped : (seen v : ℕ) (r : List ℕ) → Sofar seen v → ((c : ℕ) (s : List ℕ) → r ≡ c ∷ s → ¬ GoesOn seen v c) → ((w : ℕ) (s : List ℕ) → ¬ Digits (digits seen v ++ r) w s)
    → Stops (digits seen v ++ r) (length (digits seen v))
stopped seen v [] h on not =
    let p = digits seen v in
    record {
      within = omega (arith, length-append p []);
      before = rw (take_at p [] (length p) refl) (digits_start seen v h);
      stops = λ less. absurd (omega (arith, length-append p []));
      not = not;
    }
stopped seen v (c ∷ r) h on not =
    let p = digits seen v in
    let one : take (length p + 1) (p ++ (c ∷ r)) ≡ p ++ (c ∷ []) =
    ap (take (length p + 1)) (sym (append_snoc p c r)) ∙ take_at (p ++ (c ∷ [])) r (length p + 1) (length-append p (c ∷ [])) in
    record {
      within = omega (arith, length-append p (c ∷ r));
      before = rw (take_at p (c ∷ r) (length p) refl) (digits_start seen v h);
      stops = λ less s. on c r refl (digits_on seen v c h (subst Starts one s));
      not = not;
    }

pub digits_stop : (seen v c : ℕ) (r : List ℕ) → Sofar seen v → IsDigit c → ¬ GoesOn seen v c → Stops (digits seen v ++ (c ∷ r)) (length (digits seen v))
digits_stop seen v c r h d on =
    let p = digits seen v in
    stopped seen v (c ∷ r) h (λ x s e g. on (subst (GoesOn seen v) (sym (ap (λ (l : List ℕ). get_or l 0 0) e)) g))
    (λ w s there.
    let (m, same) = reach (p ++ (c ∷ [])) r (decimal w) s (all_append p (c ∷ []) (digits_all seen v) (d, tt)) there.ended (append_snoc p c r ∙ there.bytes) in
    on (digits_on seen v c h (w, m, there.number, sym same)))

digit_first : (w : ℕ) (r s : List ℕ) → NoDigit r → ¬ (r ≡ decimal w ++ s)
digit_first w r s n e = first (decimal w) (number_digits w) (decimal_some w) e
  where
    first : (q : List ℕ) → AllDigits q → 1 ≤ length q → ¬ (r ≡ q ++ s)
    first [] a some same = absurd (omega arith)
    first (x ∷ q) (d, a) some same = subst NoDigit same n d

pub digits_none : (r : List ℕ) → NoDigit r → Stops r 0
digits_none r n =
    stopped 0 0 r (omega arith) (λ c s e g. subst NoDigit e n g.0) (λ w s there. digit_first w r s n there.bytes)

pub digits_end : (seen v : ℕ) (r : List ℕ) → Sofar seen v → 1 ≤ seen → NoDigit r → Digits (digits seen v ++ r) v r
digits_end zero v r h some n = absurd (omega arith)
digits_end (suc seen) v r h some n = record { number = omega arith; bytes = refl; ended = n }

-- ---- there is one answer

pub digits_unique : {b r s : List ℕ} {v w : ℕ} → Digits b v r → Digits b w s → (v ≡ w) × (r ≡ s)
digits_unique {b} {r} {s} {v} {w} g h =
    let e = sym g.bytes ∙ h.bytes in
    let (m, on) = reach (decimal v) r (decimal w) s (number_digits v) h.ended e in
    let (l, back) = reach (decimal w) s (decimal v) r (number_digits w) g.ended (sym e) in
    let same : length (decimal v) ≡ length (decimal w) =
    omega (arith, ap length on, ap length back, length-append (decimal v) m, length-append (decimal w) l) in (
      sym (number_value v) ∙ ap (value 0) (sym (take_at (decimal v) r (length (decimal v)) refl) ∙ ap (take (length (decimal v))) e ∙ take_at (decimal w) s (length (decimal v)) (sym same)) ∙ number_value w,
      sym (drop_at (decimal v) r (length (decimal v)) refl) ∙ ap (drop (length (decimal v))) e ∙ drop_at (decimal w) s (length (decimal v)) (sym same),
    )

starts_shorter : (b : List ℕ) (i j : ℕ) → i ≤ j → Starts (take j b) → Starts (take i b)
starts_shorter b i j h (v, m, small, same) = (
  v,
  drop i (take j b) ++ m,
  small,
  sym (append_assoc (take i b) (drop i (take j b)) m)
      ∙ ap (λ (l : List ℕ). l ++ m) (ap (λ (l : List ℕ). l ++ drop i (take j b)) (sym (take-take i j b h)) ∙ take-append-drop i (take j b)) ∙ same,
)

pub stops_unique : {b : List ℕ} {i j : ℕ} → Stops b i → Stops b j → i ≡ j
stops_unique {b} {i} {j} g h = elim (dec_lt i j) [
  | yes less ↦ absurd (g.stops (omega (arith, h.within)) (starts_shorter b (i + 1) j (omega arith) h.before))
  | no not ↦ elim (dec_lt j i) [
    | yes more ↦ absurd (h.stops (omega (arith, g.within)) (starts_shorter b (j + 1) i (omega arith) g.before))
    | no same ↦ omega arith
  ]
]

-- ---- and the byte that ends it

pub ending_low : (rest : List ℕ) → ending rest < digit 0
ending_low [] = omega arith
ending_low (c ∷ rest) = omega arith

pub begins_digits : {b rest : List ℕ} {v : ℕ} → Begins b v rest → Digits b v (ending rest ∷ rest)
begins_digits {rest = rest} g = record { number = g.number; bytes = g.bytes; ended = λ d. omega (arith, ending_low rest) }

pub digits_begin : {b r rest : List ℕ} {v : ℕ} → Digits b v r → r ≡ ending rest ∷ rest → Begins b v rest
digits_begin {v = v} g e = record { number = g.number; bytes = g.bytes ∙ ap (λ (l : List ℕ). decimal v ++ l) e }

pub begins_unique : {b r s : List ℕ} {v w : ℕ} → Begins b v r → Begins b w s → (v ≡ w) × (r ≡ s)
begins_unique g h = let (number, rest) = digits_unique (begins_digits g) (begins_digits h) in (number, ap (drop 1) rest)

-- ---- what is read

abbrev pub Outcome : List ℕ → Type 0
Outcome b = ((v : ℕ) × (rest : List ℕ) × Digits b v rest) ⊎ ((i : ℕ) × Stops b i)

again : {b c : List ℕ} → c ≡ b → Outcome c → Outcome b
again e (inl (v, rest, d)) = inl (v, rest, record { number = d.number; bytes = sym e ∙ d.bytes; ended = d.ended })
again e (inr (i, stops)) = inr (i, subst (λ (l : List ℕ). Stops l i) e stops)

ended : (seen v : ℕ) (r : List ℕ) → Sofar seen v → NoDigit r → Outcome (digits seen v ++ r)
ended zero v r h n = inr (0, digits_none r n)
ended (suc seen) v r h n = inl (v, r, digits_end (suc seen) v r h (omega arith) n)

read_on : (seen v : ℕ) (b : List ℕ) → Sofar seen v → Outcome (digits seen v ++ b)
unfolding dec_le ended again
read_on seen v [] h = ended seen v [] h tt
read_on seen v (c ∷ b) h = elim (goes_on? seen v c) [
  | yes g ↦
      again (ap (λ (l : List ℕ). l ++ b) (sym (digits_more seen v c h g)) ∙ append_snoc (digits seen v) c b) (read_on (suc seen) (more v c) b (omega arith))
  | no stops ↦ elim (digit? c) [
    | yes d ↦ inr (length (digits seen v), digits_stop seen v c b h d stops)
    | no n ↦ ended seen v (c ∷ b) h n
  ]
]

unfoldable pub outcome : (b : List ℕ) → Outcome b
unfolding read_on
outcome b = read_on 0 0 b (omega arith)

begun : {b r : List ℕ} {v : ℕ} → Digits b v r → Dec ((w : ℕ) × (rest : List ℕ) × Begins b w rest)
unfolding ℕ_discrete
begun {r = []} d = no (λ (w, rest, g). omega (arith, ap length (digits_unique d (begins_digits g)).1))
begun {r = c ∷ r} {v} d = elim (ℕ_discrete c (ending r)) [
  | yes e ↦ yes (v, r, digits_begin d (ap (λ (x : ℕ). x ∷ r) e))
  | no not ↦ no (λ (w, rest, g).
      let same = (digits_unique d (begins_digits g)).1 in
      not (ap (λ (l : List ℕ). get_or l 0 0) same ∙ ap ending (sym (ap (drop 1) same))))
]

unfoldable pub begins? : (b : List ℕ) → Dec ((v : ℕ) × (rest : List ℕ) × Begins b v rest)
unfolding outcome begun
begins? b = elim (outcome b) [
  | inl (v, r, d) ↦ begun d
  | inr (i, stops) ↦ no (λ (v, rest, g). stops.not v (ending rest ∷ rest) (begins_digits g))
]
