use Rattle.station_schema.proofs.Common.{state}
use Rattle.station_schema.proofs.Owned.{owns_old}
use Rattle.station_schema.proofs.Again.{old_again}
use Rattle.station_schema.proofs.connection.shows_old_station.Goals as goal

pub returns-clause-own : goal.returns-clause-own
returns-clause-own g c is_open has = owns_old (state g.S.Store c.args.conn.now).now has (c.schema.ensures.live is_open).0

pub returns-clause-station : goal.returns-clause-station
returns-clause-station g c has is_open settled lies = old_again g.S.Store c.args.conn.now is_open settled c.schema.ensures.live has lies
