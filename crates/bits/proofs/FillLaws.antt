-- An array of m zeros is filled from its front.
--   Filled m l numbers j   the numbers of l below place j stand in the array, and zeros from there on
--   fill_zeros             numbers that are 0 stand from the start
--   fill_none              no number stands yet
--   fill_more              one number more
--   fill_all               the whole list
--   fill_whole             the whole list, where it has a number for each place
--   fill_value             one value more of a map, where these are the numbers
use Prim.Native.Nat.{ℕ, ◌+◌, ◌≤◌, ◌<◌}
use mathlib.Core.Path.{◌≡◌, sym, ap, ap₂, ◌∙◌}
use mathlib.Core.List.{List, [], ◌∷◌, ◌++◌, map}
use native.Mathlib.Decide.{dec_lt}
use native.Mathlib.Numerals.{add-one}
use native.Mathlib.Omega.{arith}
use lib.ListN.{length, get_or, take, set, replicate, length-take, length-replicate, length-map, get_or-map, get_or-eq_default}
use lib.Seq.{length-take-le, take_all, take-suc, get_or-take}
use Rattle.bits.specs.Padded.{padded_to}
use Rattle.bits.proofs.ImageLaws.{zeros_at}
use Rattle.bits.proofs.PaddedLaws.{padded_unique, padded_whole, padded_snoc}

pub record Filled (m : ℕ) (l numbers : List ℕ) (j : ℕ) : Type 0 where
  pub room : length l ≤ m
  pub front : numbers ≡ padded_to m (take j l)

module _ {m : ℕ} {l : List ℕ} (room : length l ≤ m) where
  pub fill_zeros : {j : ℕ} → ((i : ℕ) → i < j → i < length l → get_or l i 0 ≡ 0) → Filled m l (replicate m 0) j
  fill_zeros {j} zeros =
      let size = length-take j l in
      record {
        room = room;
        front =
            padded_unique m (take j l) (replicate m 0) (omega (arith, size)) (length-replicate {A = ℕ} m 0)
            (λ i. zeros_at m i ∙ sym (elim (dec_lt i (length (take j l))) [
              | yes h ↦ get_or-take j l i 0 (omega (arith, size)) ∙ zeros i (omega (arith, size)) (omega (arith, size))
              | no h ↦ get_or-eq_default (take j l) 0 (omega arith)
            ]));
      }

  pub fill_none : Filled m l (replicate m 0) 0
  fill_none = fill_zeros (λ i h inside. absurd (omega arith))

module _ {m : ℕ} {l numbers : List ℕ} {j : ℕ} (f : Filled m l numbers j) where
  -- whatever stands for the numbers beyond the last
  one_more : (d : ℕ) {new : ℕ} → j < length l → new ≡ get_or l j d → Filled m l (set numbers j new) (j + 1)
  one_more d {new} h e =
      let here = length-take-le j l (omega arith) in
      let joined : take j l ++ (new ∷ []) ≡ take (j + 1) l = rw (e, add-one, take-suc l j d h) in
      record {
        room = f.room;
        front =
            ap₂ (λ (ns : List ℕ) (i : ℕ). set ns i new) f.front (sym here)
            ∙ padded_snoc m (take j l) new (omega (arith, here, f.room))
            ∙ ap (padded_to m) joined;
      }

  pub fill_more : {new : ℕ} → j < length l → new ≡ get_or l j 0 → Filled m l (set numbers j new) (j + 1)
  fill_more = one_more 0

  pub fill_all : length l ≤ j → numbers ≡ padded_to m l
  fill_all end = f.front ∙ ap (padded_to m) (take_all j l end)

  pub fill_whole : length l ≡ m → m ≤ j → numbers ≡ l
  fill_whole whole end = fill_all (omega arith) ∙ padded_whole m l whole

pub fill_value : (f : ℕ → ℕ) (l : List ℕ) {m : ℕ} {numbers : List ℕ} {j : ℕ} → Filled m (map f l) numbers j
    → {new : ℕ} → j < length l → new ≡ f (get_or l j 0) → Filled m (map f l) (set numbers j new) (j + 1)
fill_value f l {j = j} i h e = one_more i (f 0) (omega (arith, length-map l f)) (e ∙ sym (get_or-map f l j 0))
