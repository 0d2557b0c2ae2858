use Rattle.shipment_machine.proofs.Opening.{opening_lawful}
use Rattle.shipment_machine.proofs.laws.opening_law.Goals as goal

pub returns : goal.returns
returns c = opening_lawful
