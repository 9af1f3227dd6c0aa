-- What follows from the contracts of the mover and of the inverse alone.
--   moved_and_back      a frame moved by an order and then by its inverse is the frame; neither the inverse nor the second move is refused
--   back_and_moved      a frame moved by the inverse and then by the order is the frame too
--   moves_unique        the mover has one answer, and leaves one content
use Prim.Native.Nat.{ℕ, ◌^◌}
use mathlib.Core.Path.{◌≡◌, sym, ◌∙◌}
use mathlib.Core.List.{List}
use mathlib.Core.Option.{none}
use lib.ListN.{length}
use Rattle.std.specs.Prelude.{Result, IsOk}
use Rattle.kinds.specs.Edition.{Edition, SizedN}
use Rattle.kinds.specs.Decisions.{sized_n?}
use Rattle.kinds.specs.First.{first_of}
use Rattle.kinds.specs.declared.Refusal.{Refusal}
use Rattle.kinds.proofs.AnswerLaws.{said_same, done_none, answers_done, answers_same, answers_agree}
use Rattle.order.specs.Order.{Order, Undoes}
use Rattle.order.specs.Table.{inverse_lengths}
use Rattle.order.specs.Tools.{Inverts}
use Rattle.order.proofs.OrderLaws.{undoes_order, undoes_sym}
use Rattle.order.proofs.MoveLaws.{moved_unique, moved_home}
use Rattle.order.proofs.TableLaws.{order_sound}
use Rattle.order.proofs.ToolLaws.{inverse_sound}
use Rattle.mover.specs.Tool.{mover_lengths, mover_table, Moves}

-- what a mover that is done shows, and when it is
module _ (e : Edition) (n : ℕ) (C : List ℕ) where
  mover_sound : (frame out : List ℕ) → first_of (mover_table e n C frame out) ≡ none → SizedN e n × (length frame ≡ 2 ^ n) × Order n C
  mover_sound frame out l =
      let s = (order_sound (sized_n? e n) n C (mover_lengths n frame out)).0 l in (s.0, s.1.0, s.2)

  mover_done : (frame out moved : List ℕ) (r : Result Unit Refusal) → SizedN e n → Order n C → length frame ≡ 2 ^ n → length out ≡ 2 ^ n
      → Moves e n C frame out moved r → IsOk r
  mover_done frame out moved r s o f g =
      answers_done r ((order_sound (sized_n? e n) n C (mover_lengths n frame out)).1 (s, (f, (g, tt)), o))

  pub moves_unique : (frame out a b : List ℕ) (r s : Result Unit Refusal) → Moves e n C frame out a r → Moves e n C frame out b s → (r ≡ s) × (a ≡ b)
  moves_unique frame out a b r s p q = (
    said_same r s (answers_same p q),
    answers_agree p q (λ l u w. moved_unique (mover_sound frame out l).2 u w) (λ k l. k ∙ sym l),
  )

-- a frame that was moved by one order comes home by one that undoes it
round : (e : Edition) (n : ℕ) (C D frame out moved buffer home : List ℕ) (r s : Result Unit Refusal) → Undoes n C D → length buffer ≡ 2 ^ n
    → IsOk r → Moves e n C frame out moved r → Moves e n D moved buffer home s → (IsOk s) × (home ≡ frame)
round e n C D frame out moved buffer home r s u l d there back =
    let (sized, whole, o) = mover_sound e n C frame out (sym there.is_first ∙ done_none r d) in
    let m = there.done (done_none r d) in
    let done = mover_done e n D moved buffer home s sized (undoes_order o u) m.whole l back in
    (done, moved_home o u whole m (back.done (done_none s done)))

module _ (e : Edition) (n : ℕ) (C D frame out moved inverse buffer home : List ℕ) (r q s : Result Unit Refusal) (l : length buffer ≡ 2 ^ n)
    (d : IsOk r) (undo : Inverts e n C inverse D q) where
  pub moved_and_back : length inverse ≡ n → Moves e n C frame out moved r → Moves e n D moved buffer home s
      → (IsOk q) × (IsOk s) × (home ≡ frame)
  moved_and_back i there back =
      let (sized, whole, o) = mover_sound e n C frame out (sym there.is_first ∙ done_none r d) in
      let undone = answers_done q ((order_sound (sized_n? e n) n C (inverse_lengths n inverse)).1 (sized, (i, tt), o)) undo in
      let (done, same) = round e n C D frame out moved buffer home r s (undo.done (done_none q undone)) l d there back in
      (undone, done, same)

  pub back_and_moved : IsOk q → Moves e n D frame out moved r → Moves e n C moved buffer home s → (IsOk s) × (home ≡ frame)
  back_and_moved undone there back =
      let o = inverse_sound e n C inverse (sym undo.is_first ∙ done_none q undone) in
      round e n D C frame out moved buffer home r s (undoes_sym o (undo.done (done_none q undone))) l d there back
