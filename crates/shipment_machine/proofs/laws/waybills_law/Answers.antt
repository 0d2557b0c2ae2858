use Rattle.shipment_machine.proofs.OnFlight.{Rising-waybills_of, is_in-waybills_of}
use Rattle.shipment_machine.proofs.laws.waybills_law.Goals as goal

pub returns-clause-ascending : goal.returns-clause-ascending
returns-clause-ascending c = Rising-waybills_of

pub returns-clause-moved : goal.returns-clause-moved
returns-clause-moved c = λ book w. is_in-waybills_of w book
