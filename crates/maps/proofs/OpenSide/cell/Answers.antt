-- A cell of a shown side is a number of sixteen bits.
use Rattle.maps.proofs.OpenLaws.{is_cell}
use Rattle.maps.proofs.OpenSide.cell.Goals as goal

pub returns : goal.returns
returns c = is_cell c.args.slot.tick.0 c.args.slot.port.0 c.address-address.ensures c.bank-bank.ensures c.cell_number.ensures
