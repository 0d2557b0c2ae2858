use Rattle.shipment_machine.specs.Book.{pieces_of, tenths_of}
use Rattle.carried_station.proofs.Kept.{carried_lawful, same_waybill}
use Rattle.carried_station.proofs.Sums.{sums_agree}
use Rattle.carried_station.proofs.laws.carry_law.Goals as goal

pub returns-clause-lawful : goal.returns-clause-lawful
returns-clause-lawful c = carried_lawful

pub returns-clause-whole : goal.returns-clause-whole
returns-clause-whole c = same_waybill

pub returns-clause-pieces : goal.returns-clause-pieces
returns-clause-pieces c = sums_agree pieces_of

pub returns-clause-tenths : goal.returns-clause-tenths
returns-clause-tenths c = sums_agree tenths_of
