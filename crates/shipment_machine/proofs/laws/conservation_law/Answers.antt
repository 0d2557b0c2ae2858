use Rattle.shipment_machine.proofs.Conserved.{is_conserved}
use Rattle.shipment_machine.proofs.laws.conservation_law.Goals as goal

pub returns : goal.returns
returns c = is_conserved
