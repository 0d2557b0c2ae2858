use Rattle.station_schema.proofs.Common.{state}
use Rattle.station_schema.proofs.Statements.{changes}
use Rattle.station_schema.proofs.StationLemmas.{inserts_station, insert_survives}
use Rattle.station_schema.proofs.creation.insert_station.Goals as goal

pub returns-clause-made : goal.returns-clause-made
returns-clause-made g c clean inside =
    changes _ _ (state g.S.Store c.args.conn.now) (state g.S.Store c.execute.new.self) _ (λ count. inserts_station (state g.S.Store c.args.conn.now) (state g.S.Store c.execute.new.self) c.args.airport.now count inside) _
    (rw c.params-to_sql.ensures at (c.execute.ensures.runs clean))

pub returns-clause-survives : goal.returns-clause-survives
returns-clause-survives g c = insert_survives _ _ _ c.execute.ensures.survives
