-- A bank has no more bits than a port.
use Rattle.std.proofs.Common.{ℕ, ◌^◌, ◌<◌, List, lt_of_lt_of_le, arith}
use lib.Bits.{xor_lt}
use lib.Pow.{pow_mono}
use Rattle.kinds.specs.Frame.{port_of}
use Rattle.kinds.proofs.FrameLaws.{port_lt}
use Rattle.bits.proofs.ImageLaws.{image_lt}
use Rattle.span.specs.Rows.{dots}
use Rattle.sheet.specs.declared.Stage.{Stage}
use Rattle.switches.specs.Stages.{bank_after}
use Rattle.switches.proofs.StageLaws.{directions, controls, selected, stages_sum, directions_below}
use Rattle.construction.specs.Planned.{StagesInRange}
use Rattle.plan.proofs.chosen.Chosen.banks.Goals as goal

bank_lt : (n k : ℕ) (ss : List Stage) → StagesInRange n k ss → (c p : ℕ) → bank_after ss c (port_of k p) < 2 ^ k
bank_lt n k ss range c p =
    rw (stages_sum ss c (port_of k p))
    (xor_lt k (port_of k p) (selected ss c) (port_lt k p) (image_lt k (directions ss) (directions_below k _ ss range) (dots (controls ss) c)))

pub overflow_cast-bank : goal.overflow_cast-bank
overflow_cast-bank c = record {
  fits =
      rw (c.after_stages-bank.ensures, c.as_slice-stages.ensures.value)
      (rw c.slot_of-slot.ensures.port_value (lt_of_lt_of_le (bank_lt _ _ _ c.args.self.now.in_range _ _) (omega (arith, pow_mono {i = c.args.self.now.sizes.k} {j = 5} (omega arith)))));
}
