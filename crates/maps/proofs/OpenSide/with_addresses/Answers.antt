use Rattle.std.proofs.Common.{arith}
use Rattle.kinds.proofs.TruthLaws.{denied}
use Rattle.maps.proofs.AddressLaws.{readdresses_not}
use Rattle.maps.proofs.OpenSide.with_addresses.Goals as goal
use Rattle.maps.proofs.OpenSide.with_addresses.Goals.{then-self-gt16-via-then-self-gt16, then-self-gt16-via-else-self-gt16+then-not-within_bits}

pub returns-then-self-gt16 : goal.returns-then-self-gt16
returns-then-self-gt16 c =
    readdresses_not (λ may. elim c.then-self-gt16.branch [
      | then-self-gt16-via-then-self-gt16 w ↦ omega (arith, may.ports)
      | then-self-gt16-via-else-self-gt16+then-not-within_bits w ↦ denied w.within_bits.ensures w.if-not-within_bits.true may.below
    ])
