-- Places of the memory, and the cells that a call reads and writes.
--   halves_apart       places of two halves are different
--   places_at          the cells of a tick, one by one
--   places_length      there are 2^k of them
--   reads_length       a call reads 2^k cells or none
--   reads_few          so it reads at most 2^k
--   came_all, came_few    of 2^k words or none, some are 2^k, and no more than that
--   writes_length      it writes as many as came
--   places_clash       the cells of a tick clash exactly when those of two of its words are of one bank
--   places_below       where a map goes into 2^n cells, the places of a tick are places of the memory
--   reads_below, writes_below      so are those that a call reads, and those that it writes
--   sides_apart        and no place that it writes is one that it reads
--   are_places         a list of cells, each with the start of a half added, is the places of a tick
--   nothing            a list without numbers is the empty one
--   are_writes, are_reads          a list that has the right length and, where that is 2^k, these places, is what a call writes, or what it reads
use Prim.Native.Nat.{ℕ, ◌+◌, ◌-◌, ◌*◌, ◌/◌, ◌^◌, ◌<◌, ◌≤◌}
use mathlib.Core.Path.{◌≡◌, refl, sym, ap, ap₂, ◌∙◌}
use mathlib.Core.Bool.{Bool, true, false, cond}
use mathlib.Core.List.{List, [], ◌∷◌}
use mathlib.Core.Logic.{◌≢◌, ◌↔◌, inl, inr}
use native.Mathlib.Nat.{mul_assoc, mul-add-mod_self_right}
use native.Mathlib.Omega.{arith}
use lib.Arith.{digits_lt}
use lib.ListN.{length, get_or}
use lib.Pow.{pow-add, high}
use Rattle.kinds.specs.Frame.{ticks, word_at, bank_of, in_order}
use Rattle.kinds.proofs.FrameLaws.{frame_whole, in_order_length, in_order_at, in_order_is}
use Rattle.kinds.specs.Lengths.{or_none, IsLength}
use Rattle.bits.specs.Image.{AllBelow}
use Rattle.sheet.specs.Sheet.{Side}
use Rattle.switches.specs.Cells.{cell_at, cell_of}
use Rattle.switches.proofs.CellLaws.{cell_word}
use Rattle.state.specs.States.{reading}
use Rattle.state.specs.declared.State.{State}
use Rattle.faults.specs.Faults.{Clash}
use Rattle.call.specs.Call.{place_in, places_of, reads_of, writes_of}

pub came_all : (m w : ℕ) (ws : List ℕ) → IsLength (length (w ∷ ws)) (or_none m) → length (w ∷ ws) ≡ m
came_all m w ws (inl e) = e
came_all m w ws (inr e) = absurd (omega (arith, e))

pub came_few : {l m : ℕ} → IsLength l (or_none m) → l ≤ m
came_few (inl e) = omega (arith, e)
came_few (inr e) = omega (arith, e)

half_bank : {n k : ℕ} → k ≤ n → (h x : ℕ) → bank_of k (place_in n h x) ≡ bank_of k x
half_bank {n} {k} within h x =
    ap (λ (i : ℕ). bank_of k (i + x)) (ap (λ (i : ℕ). h * i) (sym (frame_whole within)) ∙ sym (mul_assoc h (ticks n k) (2 ^ k)))
    ∙ mul-add-mod_self_right (h * ticks n k) (2 ^ k) x

pub halves_apart : (n : ℕ) {g h x y : ℕ} → x < 2 ^ n → y < 2 ^ n → g ≢ h → place_in n g x ≢ place_in n h y
halves_apart n {g} {h} l r differ same = differ (sym (high g n l) ∙ ap (λ (i : ℕ). i / 2 ^ n) same ∙ high h n r)

module _ (n k : ℕ) (f : ℕ → ℕ) where
  pub places_at : (h c p : ℕ) → p < 2 ^ k → get_or (places_of n k f h c) p 0 ≡ place_in n h (f (word_at k c p))
  places_at h c = in_order_at (2 ^ k) (λ p. place_in n h (f (word_at k c p))) 0

  pub places_length : (h c : ℕ) → length (places_of n k f h c) ≡ 2 ^ k
  places_length h c = in_order_length (2 ^ k) (λ p. place_in n h (f (word_at k c p)))

  pub reads_length : (st : State) → length (reads_of n k f st) ≡ cond (reading (ticks n k) st) (2 ^ k) 0
  reads_length st = go (reading (ticks n k) st)
    where
      go : (b : Bool) → length (cond b (places_of n k f (1 - st.h) st.r) []) ≡ cond b (2 ^ k) 0
      go true = places_length (1 - st.h) st.r
      go false = refl

  pub reads_few : (st : State) → length (reads_of n k f st) ≤ 2 ^ k
  reads_few st = rw (reads_length st) (go (reading (ticks n k) st))
    where
      go : (b : Bool) → cond b (2 ^ k) 0 ≤ 2 ^ k
      go true = omega arith
      go false = omega arith

  pub writes_length : (st : State) (ws : List ℕ) → IsLength (length ws) (or_none (2 ^ k)) → length (writes_of n k f st ws) ≡ length ws
  writes_length st [] right = refl
  writes_length st (w ∷ ws) right = places_length st.h st.a ∙ sym (came_all (2 ^ k) w ws right)

module _ {n k : ℕ} (within : k ≤ n) (f : ℕ → ℕ) (h c : ℕ) where
  place_bank : (p : ℕ) → p < 2 ^ k → bank_of k (get_or (places_of n k f h c) p 0) ≡ bank_of k (f (word_at k c p))
  place_bank p l = ap (bank_of k) (places_at n k f h c p l) ∙ half_bank within h (f (word_at k c p))

  pub places_clash : Clash k (places_of n k f h c) ↔ ((p : ℕ) × (q : ℕ) × (p < q) × (q < 2 ^ k) × (bank_of k (f (word_at k c p)) ≡ bank_of k (f (word_at k c q))))
  places_clash =
      let all = places_length n k f h c in (
        λ (p, l, (q, r, (b, e))). (p, q, b, omega arith, sym (place_bank p (omega arith)) ∙ e ∙ place_bank q (omega arith)),
        λ (p, q, b, r, e). (p, omega arith, (q, omega arith, (b, place_bank p (omega arith) ∙ e ∙ sym (place_bank q r)))),
      )

module _ (n k : ℕ) (f : ℕ → ℕ) (into : (i : ℕ) → f i < 2 ^ n) where
  pub places_below : (h c : ℕ) → h < 2 → AllBelow (2 ^ (n + 1)) (places_of n k f h c)
  places_below h c half p l =
      rw (places_at n k f h c p (rw (places_length n k f h c) at l))
      (omega (arith, digits_lt half (into (word_at k c p)), pow-add 2 n 1))

  pub reads_below : (st : State) → AllBelow (2 ^ (n + 1)) (reads_of n k f st)
  reads_below st = go (reading (ticks n k) st)
    where
      go : (b : Bool) → AllBelow (2 ^ (n + 1)) (cond b (places_of n k f (1 - st.h) st.r) [])
      go true = places_below (1 - st.h) st.r (omega arith)
      go false = λ p l. absurd (omega arith)

  pub writes_below : (st : State) (ws : List ℕ) → st.h < 2 → AllBelow (2 ^ (n + 1)) (writes_of n k f st ws)
  writes_below st [] half = λ p l. absurd (omega arith)
  writes_below st (w ∷ ws) half = places_below st.h st.a half

module _ (n k : ℕ) (f g : ℕ → ℕ) (into : (i : ℕ) → f i < 2 ^ n) (from : (i : ℕ) → g i < 2 ^ n) where
  pub sides_apart : (st : State) (ws : List ℕ) (p q : ℕ) → st.h < 2 → p < length (writes_of n k f st ws) → q < length (reads_of n k g st)
      → get_or (writes_of n k f st ws) p 0 ≢ get_or (reads_of n k g st) q 0
  sides_apart st [] p q half l = λ r. absurd (omega arith)
  sides_apart st (w ∷ ws) p q half l = go (reading (ticks n k) st)
    where
      go : (b : Bool) → q < length (cond b (places_of n k g (1 - st.h) st.r) []) → get_or (places_of n k f st.h st.a) p 0 ≢ get_or (cond b (places_of n k g (1 - st.h) st.r) []) q 0
      go true r = λ same.
          halves_apart n (into _) (from _) (omega arith)
          (sym (places_at n k f st.h st.a p (rw (places_length n k f st.h st.a) at l)) ∙ same ∙ places_at n k g (1 - st.h) st.r q (rw (places_length n k g (1 - st.h) st.r) at r))
      go false r = absurd (omega arith)

pub are_places : (n k : ℕ) (S : Side) (h c : ℕ) {base : ℕ} {l : List ℕ} → base ≡ h * 2 ^ n → l ≡ in_order (2 ^ k) (λ p. base + cell_at k S c p)
    → l ≡ places_of n k (cell_of k S) h c
are_places n k S h c {base} {l} b e =
    in_order_is (2 ^ k) (λ p. place_in n h (cell_of k S (word_at k c p))) 0 l
    (ap length e ∙ in_order_length (2 ^ k) _)
    (λ p i. ap (λ (x : List ℕ). get_or x p 0) e ∙ in_order_at (2 ^ k) _ 0 p i ∙ ap₂ ◌+◌ b (cell_word k S c p i))

pub nothing : (l : List ℕ) → length l ≡ 0 → l ≡ []
nothing [] e = refl
nothing (x ∷ l) e = absurd (omega arith)

module _ (n k : ℕ) (f : ℕ → ℕ) (st : State) (l : List ℕ) where
  pub are_writes : (ws : List ℕ) → IsLength (length ws) (or_none (2 ^ k)) → length l ≡ length ws → (length l ≡ 2 ^ k → l ≡ places_of n k f st.h st.a)
      → l ≡ writes_of n k f st ws
  are_writes [] right e places = nothing l e
  are_writes (w ∷ ws) right e places = places (e ∙ came_all (2 ^ k) w ws right)

  pub are_reads : length l ≡ cond (reading (ticks n k) st) (2 ^ k) 0 → (length l ≡ 2 ^ k → l ≡ places_of n k f (1 - st.h) st.r) → l ≡ reads_of n k f st
  are_reads e places = go (reading (ticks n k) st) e
    where
      go : (b : Bool) → length l ≡ cond b (2 ^ k) 0 → l ≡ cond b (places_of n k f (1 - st.h) st.r) []
      go true e = places e
      go false e = nothing l e
