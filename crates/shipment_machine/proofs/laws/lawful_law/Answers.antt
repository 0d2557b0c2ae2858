use Rattle.shipment_machine.proofs.KeepsAll.{keeps_lawful}
use Rattle.shipment_machine.proofs.laws.lawful_law.Goals as goal

pub returns : goal.returns
returns c = keeps_lawful
