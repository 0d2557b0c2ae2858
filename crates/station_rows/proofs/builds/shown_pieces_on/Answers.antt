use Rattle.station_rows.proofs.Common.{reads, state, station_schema}
use Rattle.station_rows.proofs.ReadLemmas.{query_survives}
use Rattle.station_rows.proofs.Texts.{list_pieces_is}
use Rattle.station_rows.proofs.BuildLemmas.{lists_pieces}
use Rattle.station_rows.proofs.builds.shown_pieces_on.Goals as goal

pub returns-clause-read : goal.returns-clause-read
returns-clause-read g c clean was =
    reads _ _ (state g.S.Store c.args.conn.now) (state g.S.Store c.query_all.new.self) station_schema was.schema list_pieces_is.asks.1 _
    (λ rows. (lists_pieces c.args.on.now.flight.now c.args.on.now.day).shows (state g.S.Store c.args.conn.now) (state g.S.Store c.query_all.new.self) rows was) _
    (rw (c.params-to_sql.ensures, c.params-to_sql-2.ensures) at (c.query_all.ensures.ok clean))
    (rw (c.params-to_sql.ensures, c.params-to_sql-2.ensures) at (c.query_all.ensures.err clean))

pub returns-clause-survives : goal.returns-clause-survives
returns-clause-survives g c = query_survives list_pieces_is _ _ _ c.query_all.ensures.survives
