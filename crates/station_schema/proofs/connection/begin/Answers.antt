use Rattle.station_schema.proofs.Turns.{begins, begin_survives}
use Rattle.station_schema.proofs.connection.begin.Goals as goal

pub returns-clause-begun : goal.returns-clause-begun
returns-clause-begun g c clean = begins _ _ _ (c.execute.ensures.runs clean)

pub returns-clause-survives : goal.returns-clause-survives
returns-clause-survives g c = begin_survives _ _ c.execute.ensures.survives
