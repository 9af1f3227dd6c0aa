-- The shown side's wiring and stages make the same of every number.
use Rattle.std.proofs.Common.{◌∙◌}
use Rattle.maps.proofs.OpenLaws.{is_bank}
use Rattle.maps.proofs.OpenSide.bank.Goals as goal

pub returns : goal.returns
returns c = is_bank c.args.self.now c.args.slot.tick.0 c.args.slot.port.0 c.as_slice.ensures.value (c.from-wired.ensures ∙ c.image.ensures) c.after_stages.ensures
