-- A card that is read gives the order's table; where nothing is refused, the text has room.
use Rattle.std.proofs.Common.{List, ℕ, [], ◌∷◌, ◌≡◌, ◌≤◌, Ok, Some, None, length, refl, sym, ap, ◌∙◌, arith}
use Rattle.std.specs.Prelude.{Option as Maybe}
use Rattle.std.proofs.lemmas.Result.{err_from_is_err_and}
use mathlib.Core.Option.{Option, none}
use lib.ListN.{set}
use Rattle.kinds.specs.Answers.{Answers, over_front}
use Rattle.kinds.specs.Edition.{edition1, Sized}
use Rattle.kinds.specs.Decisions.{sized?}
use Rattle.kinds.specs.First.{first_of}
use Rattle.kinds.specs.Lengths.{RightLengths}
use Rattle.kinds.specs.declared.Refusal.{Refusal}
use Rattle.kinds.proofs.AnswerLaws.{refused_by, done_by}
use Rattle.kinds.proofs.FirstLaws.{first_before}
use Rattle.order.specs.Order.{Order}
use Rattle.order.specs.Table.{order_table}
use Rattle.order.proofs.TableLaws.{order_sound}
use Rattle.card.specs.Card.{Readable, unreadable, card_table, Reads}
use Rattle.card.specs.declared.Card.{Card as OrderCard}
use Rattle.lines.specs.Written.{Writes}
use Rattle.listed.specs.Listing.{listing}
use Rattle.listed.specs.Tool.{text_places, ListsOrder}
use Rattle.listed.proofs.RoomLaws.{listing_fits}
use Rattle.list.specs.Tool.{list_lengths, listing_of}
use Rattle.list.proofs.ListLaws.{order_on_card, listed_read, writes_onto, one_set}
use Rattle.list.proofs.list.Goals as goal

-- the card c was read, and the order on it was checked
record Checked (b t l : List ℕ) (c : OrderCard) (columns : List ℕ) (o : Option Refusal) : Type 0 where
  reads : Reads b (Ok c)
  same : columns ≡ c.columns.items
  checks : o ≡ first_of (order_table (Sized edition1 c.n c.k) (sized? edition1 c.n c.k) c.n columns (list_lengths t l))

says : {b t l : List ℕ} {c : OrderCard} {columns : List ℕ} {o : Option Refusal} → Checked b t l c columns o
    → (d : Dec (Readable b)) → o ≡ first_of (card_table edition1 d (list_lengths t l))
says {t = t} {l} checked d = rw checked.same at checked.checks ∙ order_on_card (checked.reads d) (list_lengths t l)

-- nothing was refused
module _ {b t l : List ℕ} {c : OrderCard} {columns : List ℕ} (checked : Checked b t l c columns none) where
  sound : Sized edition1 c.n c.k × RightLengths (list_lengths t l) × Order c.n columns
  sound = (order_sound (sized? edition1 c.n c.k) c.n columns (list_lengths t l)).0 (sym checked.checks)

  abbrev text : List ℕ
  text = listing c.n c.k columns

  fits : length text ≤ text_places
  fits = listing_fits sound.0 sound.2

  written : {x : List ℕ} {r : Maybe ℕ} → ListsOrder c.n c.k columns t x r → (size : ℕ) × (r ≡ Some size) × Writes text 0 t x size
  written lists = lists.written (record { sized = sound.0; order = sound.2; places = sound.1.0 })

  never : {x : List ℕ} → ¬ ListsOrder c.n c.k columns t x None
  never lists = let (_, same, _) = written lists in cc

  module _ {x : List ℕ} {end : ℕ} (lists : ListsOrder c.n c.k columns t x (Some end)) where
    size : end ≡ length text
    size = let (size, same, writes) = written lists in let last : end ≡ size = cc in omega (arith, writes.next)

    few : end ≤ text_places
    few = omega (arith, size, fits)

    answers : {K : Type 0} (d : Dec (Readable b))
        → Answers (card_table edition1 d (list_lengths t l)) none ((x ≡ over_front (listing_of d) t) × (set l 0 end ≡ length (listing_of d) ∷ [])) K
    answers d =
        let (_, _, writes) = written lists in
        let same : text ≡ listing_of d = rw (← checked.same) at (listed_read (checked.reads d)) in
        done_by (sym (says checked d)) (
          writes_onto writes (omega (arith, fits, sound.1.0)) ∙ ap (λ (w : List ℕ). over_front w t) same,
          one_set l sound.1.1.0 ∙ ap (λ (i : ℕ). i ∷ []) (size ∙ ap length same),
        )

pub returns-in_err-card : goal.returns-in_err-card
returns-in_err-card c d =
    let p = err_from_is_err_and c.from_residual.result c.from_residual.ensures.1 in
    rw (p.1, p.2) (refused_by (first_before (unreadable d ∷ []) _ (sym (c.in_err-card.ensures d).answer)) (refl, refl))

pub returns-in_err-check_with_k : goal.returns-in_err-check_with_k
returns-in_err-check_with_k c d =
    let p = err_from_is_err_and c.from_residual-in_err-check_with_k.result c.from_residual-in_err-check_with_k.ensures.1 in
    let checks = c.in_err-check_with_k.ensures.answer (list_lengths c.args.text.now c.args.length.now) c.lent_right-fits.ensures in
    rw (p.1, p.2) (refused_by (sym (says (record { reads = c.in_ok-card.ensures; same = c.as_slice-columns.ensures.value; checks = checks }) d)) (refl, refl))

pub overflow_cast-length : goal.overflow_cast-length
overflow_cast-length c =
    let checks = c.in_ok-check_with_k.ensures.answer (list_lengths c.args.text.now c.args.length.now) c.lent_right-fits.ensures in
    omega (arith, few (record { reads = c.in_ok-card.ensures; same = c.as_slice-columns.ensures.value; checks = checks }) c.in-Some.ensures)

pub bounds-length-0 : goal.bounds-length-0
bounds-length-0 c =
    let checks = c.in_ok-check_with_k.ensures.answer (list_lengths c.args.text.now c.args.length.now) c.lent_right-fits.ensures in
    omega (arith, (sound (record { reads = c.in_ok-card.ensures; same = c.as_slice-columns.ensures.value; checks = checks })).1.1.0)

pub returns-in-Some : goal.returns-in-Some
returns-in-Some c d =
    let checks = c.in_ok-check_with_k.ensures.answer (list_lengths c.args.text.now c.args.length.now) c.lent_right-fits.ensures in
    answers (record { reads = c.in_ok-card.ensures; same = c.as_slice-columns.ensures.value; checks = checks }) c.in-Some.ensures d

-- there is a listing, where nothing is refused
pub returns-in_default : goal.returns-in_default
returns-in_default c d =
    let checks = c.in_ok-check_with_k.ensures.answer (list_lengths c.args.text.now c.args.length.now) c.lent_right-fits.ensures in
    absurd (never (record { reads = c.in_ok-card.ensures; same = c.as_slice-columns.ensures.value; checks = checks }) c.in_default.ensures)
