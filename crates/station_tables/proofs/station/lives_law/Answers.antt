use Rattle.station_tables.proofs.Common.{opening}
use Rattle.station_tables.proofs.Lives.{after_lives}
use Rattle.station_tables.proofs.station.lives_law.Goals as goal

pub returns-clause-lawful : goal.returns-clause-lawful
returns-clause-lawful c = after_lives c.step_law.ensures.step

pub returns-clause-new : goal.returns-clause-new
returns-clause-new c = λ here lives found are is.
    after_lives c.step_law.ensures.step (opening here) lives found (c.step_law.ensures.opening here) are is
