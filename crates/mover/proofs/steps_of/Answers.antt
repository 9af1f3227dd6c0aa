use Rattle.std.proofs.Common.{ℕ, ◌+◌, ◌-◌, ◌^◌, ◌<◌, ◌≡◌, List, length, get_or, set, bit_xor, sym, ◌∙◌, arith, below_none, below_more, length-set, get_or-set_same, get_or-set_other}
use Rattle.bits.proofs.ImageLaws.{image_zero, image_xor, image_unit}
use Rattle.bits.proofs.NextLaws.{ones_more}
use Rattle.order.specs.Order.{place}
use Rattle.mover.proofs.steps_of.Invariants.{Stepped}
use Rattle.mover.proofs.steps_of.Goals as goal

more : {C s : List ℕ} {sum j : ℕ} → Stepped C s sum j → j < length C
    → Stepped C (set s j (bit_xor sum (get_or C j 0))) (bit_xor sum (get_or C j 0)) (j + 1)
more {C} {s} {sum} {j} i h =
    let next = bit_xor sum (get_or C j 0) in
    let total : next ≡ place C (2 ^ (j + 1) - 1) = rw (i.total, ← image_unit C j, ← image_xor C (2 ^ j - 1) (2 ^ j), ones_more j) in
    record {
      fits = rw (length-set s j next) i.fits;
      total = total;
      each =
          below_more _ j (λ l k. get_or-set_other s j l next 0 (omega arith) ∙ i.each l k)
          (get_or-set_same s j next 0 (omega arith) ∙ total);
    }

pub loop-j-init : goal.loop-j-init
loop-j-init c = record { fits = omega (arith, c.requires); total = sym (image_zero _); each = below_none _ }

pub loop-j-preserved : goal.loop-j-preserved
loop-j-preserved c = more c.loop-j.invariant c.loop-j-test.true
