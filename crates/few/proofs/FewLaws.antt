-- Lists in places, with blanks after them.
--   one_more        one thing more, after the others
--   with_room       where there is room, it stands there
--   Clearing xs ys b count i    what is kept of xs stands in ys, and what comes after it was made blank, as far as place i
--   clear_one, leave_one        one place more is made blank, or is kept
--   blank_after     at last all others are blank
--   first_kept      and what is kept are the first
use Rattle.std.proofs.Common.{ℕ, ◌+◌, ◌-◌, ◌≤◌, ◌<◌, ◌≡◌, min, sym, ap, ◌∙◌, List, [], ◌∷◌, ◌++◌, length, get_or, take, take_all, drop, set, length-take, length-take-le, length-append, length-set, get_or-set_same, arith}
use Rattle.std.proofs.Math.ListN.{replicate}
use Rattle.std.proofs.Math.Seq.{drop-append-add}
use native.Mathlib.Decide.{ℕ_discrete, dec_lt}
use Rattle.std.proofs.lemmas.Grind.{elements}
use Rattle.std.proofs.lemmas.List.{take-append-drop, drop-set-lt, drop-replicate, get_or-set_other, ext_get_or, length-replicate}

module _ {X : Type 0} where
  pub one_more : (m n : ℕ) (l : List X) (b x : X) → n < m → length l ≡ m → l ≡ take n l ++ replicate (m - n) b
      → set l n x ≡ take (n + 1) (set l n x) ++ replicate (m - (n + 1)) b
  one_more m n l b x lt same e =
      let short : length (take n l) ≡ n = length-take-le n l (omega arith) in
      let blanks : drop (n + 1) (take n l ++ replicate (m - n) b) ≡ drop 1 (replicate (m - n) b) = rw short at (drop-append-add (take n l) (replicate (m - n) b) 1) in
      let fewer : m - n - 1 ≡ m - (n + 1) = omega arith in
      let rest = drop-set-lt (n + 1) l n x (omega arith) ∙ ap (drop (n + 1)) e ∙ blanks ∙ drop-replicate 1 (m - n) b ∙ ap (λ (i : ℕ). replicate i b) fewer in
      sym (ap (λ (r : List X). take (n + 1) (set l n x) ++ r) (sym rest) ∙ take-append-drop (n + 1) (set l n x))

  pub with_room : (m : ℕ) (l : List X) (x : X) → length l < m → take m (l ++ (x ∷ [])) ≡ l ++ (x ∷ [])
  with_room m l x lt = take_all m (l ++ (x ∷ [])) (omega (arith, length-append l (x ∷ [])))

  pub record Clearing (xs ys : List X) (b : X) (count i : ℕ) : Type 0 where
    pub size : length ys ≡ length xs
    pub kept : (j : ℕ) → j < count → get_or ys j b ≡ get_or xs j b
    pub cleared : (j : ℕ) → count ≤ j → j < i → get_or ys j b ≡ b

  module _ {xs ys : List X} {b : X} {count i : ℕ} (c : Clearing xs ys b count i) where
    pub clear_one : count ≤ i → i < length xs → Clearing xs (set ys i b) b count (i + 1)
    clear_one past h = record {
      size = length-set ys i b ∙ c.size;
      kept = λ j l. get_or-set_other ys i j b b (λ e. omega (arith, e)) ∙ c.kept j l;
      cleared = λ j after l. elim (ℕ_discrete j i) [
        | yes e ↦ rw e (get_or-set_same ys i b b (omega (arith, c.size)))
        | no n ↦ get_or-set_other ys i j b b n ∙ c.cleared j after (omega arith)
      ];
    }

    pub leave_one : i < count → Clearing xs ys b count (i + 1)
    leave_one before = record { size = c.size; kept = c.kept; cleared = λ j after l. c.cleared j after (omega arith) }

    module _ (m : ℕ) (is : m ≡ min count (length xs)) (done : length xs ≤ i) where
      pub blank_after : ys ≡ take m ys ++ replicate (length xs - m) b
      blank_after = ext_get_or b ys (take m ys ++ replicate (length xs - m) b) (omega (arith, c.size, length-append (take m ys) (replicate (length xs - m) b), length-take m ys, length-replicate (length xs - m) b)) (λ k h. elim (dec_lt k m) [
        | yes l ↦ grind (arith, elements, c.size)
        | no n ↦ c.cleared k (omega (arith, c.size)) (omega (arith, c.size)) ∙ sym (grind (arith, elements, c.size))
      ])

      pub first_kept : take m ys ≡ take count xs
      first_kept = ext_get_or b (take m ys) (take count xs) (omega (arith, c.size, length-take m ys, length-take count xs)) (λ k h. grind (arith, elements, c.size, c.kept k))
