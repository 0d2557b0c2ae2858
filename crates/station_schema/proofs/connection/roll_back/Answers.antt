use Rattle.station_schema.proofs.Common.{rules, state}
use Rattle.station_schema.proofs.Turns.{rolls_back, rollback_survives}
use Rattle.station_schema.proofs.connection.roll_back.Goals as goal

pub returns-clause-undone : goal.returns-clause-undone
returns-clause-undone g c clean =
    rolls_back (state g.S.Store c.args.conn.now) (state g.S.Store c.execute.new.self) (search rules) c.execute.result (c.execute.ensures.runs clean)

pub returns-clause-survives : goal.returns-clause-survives
returns-clause-survives g c = rollback_survives _ _ c.execute.ensures.survives
