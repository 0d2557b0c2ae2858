use Rattle.station_schema.proofs.Common.{Executes, [], state, subst}
use Rattle.station_schema.proofs.AnyTexts.{rollback_text}
use Rattle.station_schema.proofs.Turns.{rollback_stops, rollback_survives, refused_live}
use Rattle.station_schema.proofs.connection.is_live.Goals as goal

pub returns-clause-same : goal.returns-clause-same
returns-clause-same g c = λ refused clean.
    let old = state g.S.Store c.args.conn.now in
    let new = state g.S.Store c.execute-done.new.self in
    refused_live old new rollback_text [] (subst (Executes rollback_text [] old new) (c.is_refused.ensures refused) (c.execute-done.ensures.runs clean))

pub returns-clause-stops : goal.returns-clause-stops
returns-clause-stops g c clean = rollback_stops (state g.S.Store c.args.conn.now) (state g.S.Store c.execute-done.new.self) c.execute-done.result (c.execute-done.ensures.runs clean)

pub returns-clause-survives : goal.returns-clause-survives
returns-clause-survives g c = rollback_survives _ _ c.execute-done.ensures.survives
