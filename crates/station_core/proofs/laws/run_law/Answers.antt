use Rattle.shipment_machine.proofs.Conserved.{is_conserved}
use Rattle.shipment_machine.proofs.Shown.{are_balances}
use Rattle.station_core.proofs.Common.{after_all, opening}
use Rattle.station_core.proofs.RunLaw.{run_lawful}
use Rattle.station_core.proofs.laws.run_law.Goals as goal

pub returns-clause-lawful : goal.returns-clause-lawful
returns-clause-lawful c = run_lawful

pub returns-clause-conserved : goal.returns-clause-conserved
returns-clause-conserved c = λ here inputs w range. is_conserved (after_all (opening here) inputs).cargo w (run_lawful here inputs range).cargo

pub returns-clause-shown : goal.returns-clause-shown
returns-clause-shown c = λ here inputs w range. are_balances (after_all (opening here) inputs).cargo w (run_lawful here inputs range).cargo
