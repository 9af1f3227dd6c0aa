-- Rows need only those that the scan keeps: the others are sums of them. So row rank is column rank.
--   factored           where each row is a sum of ks, what the rows make of x is what some rows make of what ks makes of x
--   vanish_span        where each row is a sum of ks, what vanishes on ks vanishes on the rows
--   vanish_kept        a number vanishes on the kept rows exactly when it vanishes on all
--   vanish_at_kept     what the rows make of x is 0 if its bits at the kept positions are
--   functional_rows    what vanishes wherever all rows do is a sum of the rows, independent or not
--   rank_full          if only 0 vanishes on all rows, of k bits each, their rank is k
--   rank_le_rows       the rank of columns is at most that of their rows
--   rank_rows          the rank of the rows is the rank of the columns
--   image_factor       an image goes by way of the kept rows: it is a sum of as many independent columns, chosen by what those rows make of x
use Prim.Native.Nat.{ℕ, suc, ◌^◌, ◌≤◌, ◌<◌}
use mathlib.Core.Path.{◌≡◌, sym, ◌∙◌, ap}
use mathlib.Core.List.{List, [], ◌∷◌}
use mathlib.Core.Logic.{◌↔◌}
use native.Mathlib.Omega.{arith}
use native.Mathlib.Nat.{le_antisymm, le_trans, le_of_eq}
use lib.Bits.{bit_xor, xor_self, xor_lt}
use lib.ListN.{length, get_or, length-map}
use Rattle.bits.specs.Image.{image, AllBelow, columns}
use Rattle.bits.specs.Parity.{dot, bit}
use Rattle.bits.proofs.XorLaws.{xor_zero_eq}
use Rattle.bits.proofs.ImageLaws.{image_unit, linear_zero, linear_image, columns_length}
use Rattle.span.specs.Maps.{Injective}
use Rattle.span.specs.Sums.{SumOf, Independent}
use Rattle.span.specs.Scan.{kept, rank, kept_at}
use Rattle.span.specs.Rows.{dots, rows}
use Rattle.span.proofs.Counting.{injective_width}
use Rattle.span.proofs.SumLaws.{sum_image, span_trans}
use Rattle.span.proofs.RankLaws.{kept_all_independent, kept_sum, kept_member, kept_all_below, rank_le_length, rank_length, rank_le, rank_width, rank_independent}
use Rattle.span.proofs.RowLaws.{dots_nil, dots_cons, dots_lt, dots_xor, dot_image, rows_below, rows_image, rows_rows, dots_none, dots_bit}
use Rattle.span.proofs.DualLaws.{functional_sum}
use Rattle.span.proofs.ScanLaws.{members_at, kept_at_below}

pub factored : (rs ks : List ℕ) → ((j : ℕ) → j < length rs → SumOf ks (get_or rs j 0))
    → (ms : List ℕ) × ((x : ℕ) → dots rs x ≡ dots ms (dots ks x))
factored [] ks sums = ([], λ x. simp dots_nil)
factored (r ∷ rs) ks sums =
    let s : SumOf ks r = sums 0 (omega arith) in
    let rest = factored rs ks (λ j h. sums (suc j) (omega arith)) in
    (s.selected ∷ rest.0, λ x. simp dots_cons (rw (← dot_image ks s.selected x, s.sum, rest.1 x)))

pub vanish_span : (rs ks : List ℕ) → ((j : ℕ) → j < length rs → SumOf ks (get_or rs j 0)) → (x : ℕ) → dots ks x ≡ 0 → dots rs x ≡ 0
vanish_span rs ks sums x e = let m = factored rs ks sums in m.1 x ∙ rw e (linear_zero (dots m.0) (dots_xor m.0))

pub vanish_kept : (rs : List ℕ) (x : ℕ) → dots (kept rs) x ≡ 0 ↔ dots rs x ≡ 0
vanish_kept rs x = (vanish_span rs (kept rs) (kept_sum rs) x, vanish_span (kept rs) rs (kept_member rs) x)

pub vanish_at_kept : (rs : List ℕ) (x : ℕ) → ((l : ℕ) → l < length (kept_at rs (length rs)) → bit (get_or (kept_at rs (length rs)) l 0) (dots rs x) ≡ 0)
    → dots rs x ≡ 0
unfolding kept
vanish_at_kept rs x none =
    let ps = kept_at rs (length rs) in
    (vanish_kept rs x).0
    (dots_none (kept rs) x
    (λ l h.
    let k : l < length ps = rw length-map at h in
    ap (λ (r : ℕ). dot r x) (members_at rs ps l k) ∙ sym (dots_bit rs x (get_or ps l 0) (kept_at_below rs (length rs) l k)) ∙ none l k))

pub functional_rows : (k : ℕ) (rs : List ℕ) → AllBelow (2 ^ k) rs → (f : ℕ) → f < 2 ^ k
    → ((x : ℕ) → x < 2 ^ k → dots rs x ≡ 0 → dot f x ≡ 0) → SumOf rs f
functional_rows k rs below f h vanishes =
    span_trans {cs = kept rs} (kept_member rs)
    (functional_sum k (kept rs) (kept_all_below (2 ^ k) rs below) (kept_all_independent rs) f h
    (λ x l e. vanishes x l ((vanish_kept rs x).0 e)))

pub rank_full : (k : ℕ) (rs : List ℕ) → AllBelow (2 ^ k) rs → ((x : ℕ) → x < 2 ^ k → dots rs x ≡ 0 → x ≡ 0) → rank rs ≡ k
unfolding rank
rank_full k rs below only = le_antisymm (rank_width k rs below) (injective_width (λ x l. dots_lt (kept rs) x) injective)
  where
    injective : Injective (dots (kept rs)) (2 ^ k)
    injective x y h l e =
        let none : dots (kept rs) (bit_xor x y) ≡ 0 = dots_xor (kept rs) x y ∙ rw e (xor_self (dots (kept rs) y)) in
        xor_zero_eq x y (only (bit_xor x y) (xor_lt k x y h l) ((vanish_kept rs (bit_xor x y)).0 none))

dots_sum : (ms : List ℕ) (n x : ℕ) → x < 2 ^ n → SumOf (columns n (dots ms)) (dots ms x)
dots_sum ms n x h = rw (linear_image n (dots ms) (dots_xor ms) x h) (sum_image (columns n (dots ms)) x)

-- the columns are sums of those of the second factor, a map of as many bits as there are kept rows
pub rank_le_rows : (m : ℕ) (cs : List ℕ) → AllBelow (2 ^ m) cs → rank cs ≤ rank (rows m cs)
unfolding rank
rank_le_rows m cs below =
    let ks : List ℕ = kept (rows m cs) in
    let f = factored (rows m cs) ks (kept_sum (rows m cs)) in
    rw columns_length at
    (rank_le_length cs (columns (length ks) (dots f.0))
    (λ j h.
    rw (← f.1 (2 ^ j), rows_image m cs below (2 ^ j), image_unit cs j) at
    (dots_sum f.0 (length ks) (dots ks (2 ^ j)) (dots_lt ks (2 ^ j)))))

pub rank_rows : (m : ℕ) (cs : List ℕ) → AllBelow (2 ^ m) cs → rank (rows m cs) ≡ rank cs
rank_rows m cs below =
    le_antisymm (rw (rows_rows m cs below) at (rank_le_rows (length cs) (rows m cs) (rows_below m cs))) (rank_le_rows m cs below)

-- the columns of the second factor, as many as there are kept rows, have the rank of cs at least, so they are independent
pub image_factor : (m : ℕ) (cs : List ℕ) → AllBelow (2 ^ m) cs
    → (ws : List ℕ) × (length ws ≡ rank (rows m cs)) × Independent ws × ((x : ℕ) → image cs x ≡ image ws (dots (kept (rows m cs)) x))
unfolding rank
image_factor m cs below = (ws, count, independent, factors)
  where
    ks : List ℕ
    ks = kept (rows m cs)

    f : (ms : List ℕ) × ((x : ℕ) → dots (rows m cs) x ≡ dots ms (dots ks x))
    f = factored (rows m cs) ks (kept_sum (rows m cs))

    ws : List ℕ
    ws = columns (length ks) (dots f.0)

    count : length ws ≡ length ks
    count = columns_length (length ks) (dots f.0)

    factors : (x : ℕ) → image cs x ≡ image ws (dots ks x)
    factors x = sym (rows_image m cs below x) ∙ f.1 x ∙ linear_image (length ks) (dots f.0) (dots_xor f.0) (dots ks x) (dots_lt ks x)

    sums : (j : ℕ) → j < length cs → SumOf ws (get_or cs j 0)
    sums j h = rw (sym (factors (2 ^ j)) ∙ image_unit cs j) at (sum_image ws (dots ks (2 ^ j)))

    independent : Independent ws
    independent =
        rank_independent ws
        (le_antisymm (rank_length ws)
        (le_trans (le_of_eq (count ∙ rank_rows m cs below)) (rank_le cs ws sums)))
