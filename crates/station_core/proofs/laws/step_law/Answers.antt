use Rattle.station_core.proofs.StepLaw.{step_lawful}
use Rattle.station_core.proofs.laws.step_law.Goals as goal

pub returns-clause-step : goal.returns-clause-step
returns-clause-step c = step_lawful
