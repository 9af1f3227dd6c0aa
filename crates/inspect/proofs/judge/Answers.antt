-- It goes down the table from 6 to 9; past each test the reason does not apply.
use Rattle.std.proofs.Common.{ℕ, ◌≡◌, ◌↔◌, Bool, true, false, List, length, take, drop, sym, subst, ◌∙◌, take_at, rules}
use mathlib.Core.Option.{none, some}
use Rattle.kinds.specs.Answers.{Says}
use Rattle.kinds.specs.Edition.{edition1}
use Rattle.kinds.specs.First.{Reason, first_of}
use Rattle.kinds.specs.declared.Refusal.TheVariants.{WriteWiring, ReadWiring, SharedCell, Differs}
use Rattle.kinds.proofs.TruthLaws.{stable, denied}
use Rattle.kinds.proofs.FirstLaws.{first_nil, first_take, first_skip}
use Rattle.bits.specs.Padded.{padded}
use Rattle.bits.proofs.ImageLaws.{columns_length}
use Rattle.span.specs.Sums.{Independent}
use Rattle.order.specs.Order.{place}
use Rattle.sheet.specs.Sheet.{Side, write_side, read_side}
use Rattle.switches.specs.Cells.{M, N, cell_columns}
use Rattle.maps.specs.Opened.{Shows, IsWiring, AreColumns}
use Rattle.maps.specs.declared.OpenSide.{OpenSide}
use Rattle.realise.specs.Agreement.{Invertible, ShareCell, Differ}
use Rattle.realise.specs.Decisions.{share_cell?, differ?}
use Rattle.realise.specs.Realises.{map_table}
use Rattle.inspect.specs.Inside.{Agrees}
use Rattle.inspect.proofs.ColumnLaws.{wiring_tells, cells_tell, columns_tell}
use Rattle.inspect.proofs.judge.Goals as goal

-- of a padded list, a test of the part that is used decides what the columns decide
part_says : {b : Bool} {A : Type 0} {r : List ℕ} (m : ℕ) (l : List ℕ) → length l ≡ m → r ≡ padded l → A ↔ Independent l → Says b (Independent (take m r)) → Says b A
part_says {r = r} m l count whole tells says =
    let used : take m r ≡ l = rw whole (take_at l _ m count) in
    (λ e. tells.1 (subst Independent used (says.0 e)), λ a. says.1 (subst Independent (sym used) (tells.0 a)))

module _ (n k : ℕ) (C s : List ℕ) {o p : OpenSide} (write : Shows n k o (write_side edition1 n k s)) (read : Shows n k p (read_side edition1 n k s)) where
  abbrev W : Side
  W = write_side edition1 n k s

  abbrev R : Side
  R = read_side edition1 n k s

  abbrev table : List Reason
  table = map_table edition1 n k C s

  module _ {wired : List ℕ} (wiring : IsWiring o wired) {b : Bool} (test : Says b (Independent (take k wired))) where
    says_6 : Says b (Invertible k W)
    says_6 = part_says k W.wiring write.wiring (wiring n k W write) (wiring_tells write) test

    gives_6 : b ≡ false → first_of table ≡ some WriteWiring
    gives_6 e = first_take _ _ (denied says_6 e)

    past_6 : b ≡ true → first_of table ≡ first_of (drop 1 table)
    past_6 e = first_skip _ _ (λ wrong. wrong (says_6.0 e))

  module _ {wired : List ℕ} (wiring : IsWiring p wired) {b : Bool} (test : Says b (Independent (take k wired))) where
    says_7 : Says b (Invertible k R)
    says_7 = part_says k R.wiring read.wiring (wiring n k R read) (wiring_tells read) test

    gives_7 : b ≡ false → first_of (drop 1 table) ≡ some ReadWiring
    gives_7 e = first_take _ _ (denied says_7 e)

    past_7 : b ≡ true → first_of (drop 1 table) ≡ first_of (drop 2 table)
    past_7 e = first_skip _ _ (λ wrong. wrong (says_7.0 e))

  module _ {cells : List ℕ} (columns : AreColumns o cells) where
    listed : cells ≡ padded (cell_columns n k W)
    listed = columns n k W write

    module _ {b : Bool} (test : Says b (Independent (take n cells))) where
      says_8 : Says b (¬ ShareCell n (M edition1 n k s))
      says_8 = part_says n (cell_columns n k W) (columns_length n (M edition1 n k s)) listed (cells_tell write) test

      gives_8 : b ≡ false → first_of (drop 2 table) ≡ some SharedCell
      gives_8 e = first_take _ _ (stable (share_cell? n (M edition1 n k s)) (denied says_8 e))

      past_8 : b ≡ true → first_of (drop 2 table) ≡ first_of (drop 3 table)
      past_8 e = first_skip _ _ (says_8.0 e)

    module _ (count : length C ≡ n) {b : Bool} (test : Agrees k C (take n cells) p b) where
      says_9 : Says b (¬ Differ n (M edition1 n k s) (N edition1 n k s) (place C))
      says_9 =
          let used : take n cells ≡ cell_columns n k W = rw listed (take_at (cell_columns n k W) _ n (columns_length n (M edition1 n k s))) in
          let agrees = rw (used, count) at (test n R read) in
          let tells = columns_tell write read C in
          (λ e. tells.1 (agrees.0 e), λ same. agrees.1 (tells.0 same))

      gives_9 : b ≡ false → first_of (drop 3 table) ≡ some Differs
      gives_9 e = first_take _ _ (stable (differ? n (M edition1 n k s) (N edition1 n k s) (place C)) (denied says_9 e))

      past_9 : b ≡ true → first_of (drop 3 table) ≡ none
      past_9 e = first_skip _ _ (says_9.0 e) ∙ first_nil

pub returns-then-not-independent : goal.returns-then-not-independent
returns-then-not-independent c s write read = sym (gives_6 _ _ _ s write read c.wiring-write_wiring.ensures c.independent.ensures c.if-not-independent.true)

pub returns-then-not-independent-2 : goal.returns-then-not-independent-2
returns-then-not-independent-2 c s write read =
    sym (past_6 _ _ _ s write read c.wiring-write_wiring.ensures c.independent.ensures c.if-not-independent.false
    ∙ gives_7 _ _ _ s write read c.wiring-read_wiring.ensures c.independent-2.ensures c.if-not-independent-2.true)

pub returns-then-not-own_cells : goal.returns-then-not-own_cells
returns-then-not-own_cells c s write read =
    sym (past_6 _ _ _ s write read c.wiring-write_wiring.ensures c.independent.ensures c.if-not-independent.false
    ∙ past_7 _ _ _ s write read c.wiring-read_wiring.ensures c.independent-2.ensures c.if-not-independent-2.false
    ∙ gives_8 _ _ _ s write read c.columns-cells.ensures c.independent-own_cells.ensures c.if-not-own_cells.true)

-- the test before is found, not cited, so that an exchange of the two is refused here for what it gives
pub returns-then-not-in_order : goal.returns-then-not-in_order
returns-then-not-in_order c s write read =
    let own : c.independent-own_cells.result ≡ true = search rules in
    sym (past_6 _ _ _ s write read c.wiring-write_wiring.ensures c.independent.ensures c.if-not-independent.false
    ∙ past_7 _ _ _ s write read c.wiring-read_wiring.ensures c.independent-2.ensures c.if-not-independent-2.false
    ∙ past_8 _ _ _ s write read c.columns-cells.ensures c.independent-own_cells.ensures own
    ∙ gives_9 _ _ _ s write read c.columns-cells.ensures c.requires.count c.agree-in_order.ensures c.if-not-in_order.true)

pub returns : goal.returns
returns c s write read =
    sym (past_6 _ _ _ s write read c.wiring-write_wiring.ensures c.independent.ensures c.if-not-independent.false
    ∙ past_7 _ _ _ s write read c.wiring-read_wiring.ensures c.independent-2.ensures c.if-not-independent-2.false
    ∙ past_8 _ _ _ s write read c.columns-cells.ensures c.independent-own_cells.ensures c.if-not-own_cells.false
    ∙ past_9 _ _ _ s write read c.columns-cells.ensures c.requires.count c.agree-in_order.ensures c.if-not-in_order.false)
