use Rattle.station_schema.proofs.Turns.{commits, commit_survives}
use Rattle.station_schema.proofs.connection.commit.Goals as goal

pub returns-clause-done : goal.returns-clause-done
returns-clause-done g c clean = commits _ _ _ (c.execute.ensures.runs clean)

pub returns-clause-survives : goal.returns-clause-survives
returns-clause-survives g c = commit_survives _ _ c.execute.ensures.survives
