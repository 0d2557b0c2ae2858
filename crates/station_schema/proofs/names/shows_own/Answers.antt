use Rattle.station_schema.proofs.Common.{state}
use Rattle.station_schema.proofs.Owned.{owns}
use Rattle.station_schema.proofs.names.shows_own.Goals as goal

pub returns : goal.returns
returns g c is_open has = owns (state g.S.Store c.args.conn.now).now has (c.schema.ensures.live is_open).0
