-- Two ports that want one bank.
--   Different cs           the cells of cs are different
--   apart                  cells that don't clash are
--   first_pair_law         where there is a clash, the ports that a refusal names are the first such pair
--   pair_clash             where there is a first such pair, there is a clash
--   first_pair_named       and its ports are those that a refusal names
--   pair_none              there is no first pair exactly when there is no clash
--   pair_some              there is one, of two ports, exactly when they are the first such pair
--   ports_none, ports_two  so it gives no ports, or the numbers of those two
--   pair_counted           where there are no more cells than ports have numbers, it is what `first_pair` answers
use Prim.Native.Nat.{ℕ, ◌<◌, ◌≤◌}
use mathlib.Core.Path.{◌≡◌, refl, ap}
use mathlib.Core.List.{List, [], ◌∷◌}
use mathlib.Core.Logic.{◌≢◌, ◌↔◌}
use native.Mathlib.Decide.{dec_le}
use native.Mathlib.Omega.{arith}
use lib.ListN.{length, get_or}
use Rattle.std.specs.Prelude.{None, Some}
use Rattle.kinds.specs.Answers.{if_holds}
use Rattle.kinds.specs.Frame.{bank_of}
use Rattle.kinds.specs.Decided.{some_below}
use Rattle.kinds.specs.Search.{found}
use Rattle.kinds.specs.declared.Port.{Port}
use Rattle.kinds.proofs.TruthLaws.{holds_yes}
use Rattle.kinds.proofs.SearchLaws.{found_has, found_first, found_least}
use Rattle.faults.specs.Faults.{LowestPair, Clash, most_cells}
use Rattle.faults.specs.Decisions.{want_one_bank?, later_wants?, clash?}
use Rattle.faults.specs.Table.{first_port, second_port, pair_from, first_pair_of, ports_of}

not_above : {P : ℕ → Type 0} (P? : (i : ℕ) → Dec (P i)) (n i : ℕ) → P i → found (some_below P? n) ≤ i
not_above P? n i p = let high : ¬ (i < found (some_below P? n)) = λ low. found_first P? n i low p in omega arith

abbrev pub Different : List ℕ → Type 0
Different cs = (p q : ℕ) → p < q → q < length cs → get_or cs p 0 ≢ get_or cs q 0

pub apart : (k : ℕ) (cs : List ℕ) → ¬ Clash k cs → Different cs
apart k cs none p q l h same = none (p, omega arith, (q, h, (l, ap (bank_of k) same)))

module _ {k : ℕ} {cs : List ℕ} where
  pub first_pair_law : Clash k cs → LowestPair k cs (first_port k cs) (second_port k cs)
  first_pair_law clash =
      let later = (found_has (later_wants? k cs) (length cs) clash).1 in
      let (inside, one_bank) = found_has (want_one_bank? k cs (first_port k cs)) (length cs) later in
      record {
        inside = inside;
        one_bank = one_bank;
        first = λ i j h w. not_above (later_wants? k cs) (length cs) i (j, h, w);
        second = λ j h w. not_above (want_one_bank? k cs (first_port k cs)) (length cs) j w;
      }

  module _ {p q : ℕ} (first_of : LowestPair k cs p q) where
    pub pair_clash : Clash k cs
    pair_clash = (p, omega arith, (q, first_of.inside, first_of.one_bank))

    first_port_law : first_port k cs ≡ p
    unfolding pair_clash
    first_port_law = found_least (later_wants? k cs) (length cs) p pair_clash.1 pair_clash.2 (λ i l (j, h, w). omega (arith, first_of.first i j h w))

    pub first_pair_named : (first_port k cs ≡ p) × (second_port k cs ≡ q)
    first_pair_named = (
      first_port_law,
      rw first_port_law (
          found_least (want_one_bank? k cs p) (length cs) q first_of.inside first_of.one_bank (λ j l w. omega (arith, first_of.second j (omega arith) w))),
    )

module _ (k : ℕ) (cs : List ℕ) where
  none_from : (d : Dec (Clash k cs)) → pair_from k cs d ≡ None ↔ ¬ Clash k cs
  none_from (yes c) = (λ e. cc, λ n. absurd (n c))
  none_from (no n) = (λ e. n, λ _. refl)

  pub pair_none : first_pair_of k cs ≡ None ↔ ¬ Clash k cs
  pair_none = none_from (clash? k cs)

  module _ (p q : Port) where
    some_from : (d : Dec (Clash k cs)) → pair_from k cs d ≡ Some (p, q) ↔ LowestPair k cs p.0 q.0
    some_from (yes c) = (
      λ e. let pair : ◌≡◌ {A = Port × Port} (record { 0 = first_port k cs }, record { 0 = second_port k cs }) (p, q) = cc in
          rw (← ap (λ (x : Port × Port). x.0.0) pair, ← ap (λ (x : Port × Port). x.1.0) pair) (first_pair_law c),
      λ first_of. let (first, second) = first_pair_named first_of in rw (second, first),
    )
    some_from (no n) = (λ e. cc, λ first_of. absurd (n (pair_clash first_of)))

    pub pair_some : first_pair_of k cs ≡ Some (p, q) ↔ LowestPair k cs p.0 q.0
    pair_some = some_from (clash? k cs)

  pub ports_none : ¬ Clash k cs → ports_of (first_pair_of k cs) ≡ []
  ports_none apart = ap ports_of (pair_none.1 apart)

  pub ports_two : {p q : ℕ} → LowestPair k cs p q → ports_of (first_pair_of k cs) ≡ p ∷ q ∷ []
  ports_two pair = ap ports_of ((pair_some _ _).1 pair)

  pub pair_counted : length cs ≤ most_cells → if_holds (dec_le (length cs) most_cells) (first_pair_of k cs) None ≡ first_pair_of k cs
  pair_counted = holds_yes (dec_le (length cs) most_cells) _ _
