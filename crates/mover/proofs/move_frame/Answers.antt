-- Past the check the columns are an order, and both buffers are frames.
use Rattle.std.proofs.Common.{ℕ, ◌≡◌, List, length, sym, arith}
use mathlib.Core.Option.{none}
use Rattle.kinds.specs.Edition.{edition1, SizedN}
use Rattle.kinds.specs.Decisions.{sized_n?}
use Rattle.kinds.specs.First.{first_of}
use Rattle.kinds.specs.Lengths.{RightLengths}
use Rattle.kinds.proofs.AnswerLaws.{done_by}
use Rattle.order.specs.Order.{Order}
use Rattle.mover.specs.Tool.{mover_lengths, mover_table}
use Rattle.mover.specs.Inside.{TwoFrames}
use Rattle.order.proofs.TableLaws.{order_sound}
use Rattle.mover.proofs.move_frame.Goals as goal

module _ (n : ℕ) (C frame out : List ℕ) (says : none ≡ first_of (mover_table edition1 n C frame out)) where
  sound : SizedN edition1 n × RightLengths (mover_lengths n frame out) × Order n C
  sound = (order_sound (sized_n? edition1 n) n C (mover_lengths n frame out)).0 (sym says)

  frames : TwoFrames (length C) C frame out
  frames = rw sound.2.count (
      record {
        few = omega (arith, sound.0.most, sound.2.count);
        order = sound.2;
        came = sound.1.0;
        leaves = sound.1.1.0;
      })

pub move_words-requires : goal.move_words-requires
move_words-requires c =
    frames c.args.n c.args.columns.now c.args.frame.now c.args.out.now
    (c.in_ok-check.ensures (mover_lengths c.args.n c.args.frame.now c.args.out.now) c.are_frames-fits.ensures)

pub returns : goal.returns
returns c =
    let says = c.in_ok-check.ensures (mover_lengths c.args.n c.args.frame.now c.args.out.now) c.are_frames-fits.ensures in
    let order = (sound c.args.n c.args.columns.now c.args.frame.now c.args.out.now says).2 in
    done_by (sym says) (rw order.count at c.move_words.ensures)
