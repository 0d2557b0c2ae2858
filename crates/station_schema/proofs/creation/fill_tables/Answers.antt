use Rattle.station_schema.proofs.Common.{IsInside, IsMade, no_schema, state}
use Rattle.station_schema.proofs.Inside.{survives_inside}
use Rattle.station_schema.proofs.Creating.{made_inside}
use Rattle.station_schema.proofs.creation.fill_tables.Goals as goal

pub returns-in_err-insert_station-clause-survives : goal.returns-in_err-insert_station-clause-survives
returns-in_err-insert_station-clause-survives g c =
    survives_inside (state g.S.Store c.args.conn.now) (state g.S.Store c.declare.new.conn) (state g.S.Store c.insert_station.new.conn) (IsMade no_schema (state g.S.Store c.args.conn.now)) (IsInside (state g.S.Store c.declare.new.conn))
    c.declare.ensures.survives (λ clean was. made_inside (state g.S.Store c.declare.new.conn) (c.in_ok-declare.ensures.made clean was).0) c.insert_station.ensures.survives

pub returns-clause-survives : goal.returns-clause-survives
returns-clause-survives g c =
    survives_inside (state g.S.Store c.args.conn.now) (state g.S.Store c.declare.new.conn) (state g.S.Store c.insert_station.new.conn) (IsMade no_schema (state g.S.Store c.args.conn.now)) (IsInside (state g.S.Store c.declare.new.conn))
    c.declare.ensures.survives (λ clean was. made_inside (state g.S.Store c.declare.new.conn) (c.in_ok-declare.ensures.made clean was).0) c.insert_station.ensures.survives
