use Rattle.shipment_machine.proofs.Shown.{are_balances}
use Rattle.shipment_machine.proofs.laws.amounts_law.Goals as goal

pub returns : goal.returns
returns c = are_balances
