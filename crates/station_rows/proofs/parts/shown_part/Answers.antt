use Rattle.station_rows.proofs.Common.{part_shown, reads, refl, state, station_schema}
use Rattle.station_rows.proofs.ReadLemmas.{query_survives}
use Rattle.station_rows.proofs.Texts.{get_part_is}
use Rattle.station_rows.proofs.KeyedLemmas.{gets_value}
use Rattle.station_rows.proofs.PartLemmas.{part_is, part_table}
use Rattle.station_rows.proofs.parts.shown_part.Goals as goal

pub returns-clause-read : goal.returns-clause-read
returns-clause-read g c clean was =
    reads _ _ (state g.S.Store c.args.conn.now) (state g.S.Store c.query_all.new.self) station_schema was.schema get_part_is.asks.1 _
    (λ rows. (gets_value part_table part_is get_part_is part_shown (λ _ _ _. refl) (c.args.part.now.flight.now, (c.args.part.now.day, (c.args.part.now.airport.now, c.args.part.now.seq)))).shows (state g.S.Store c.args.conn.now) (state g.S.Store c.query_all.new.self) rows was) _
    (rw (c.params-to_sql.ensures, c.params-to_sql-2.ensures, c.params-to_sql-3.ensures, c.params-to_sql-4.ensures) at (c.query_all.ensures.ok clean))
    (rw (c.params-to_sql.ensures, c.params-to_sql-2.ensures, c.params-to_sql-3.ensures, c.params-to_sql-4.ensures) at (c.query_all.ensures.err clean))

pub returns-clause-survives : goal.returns-clause-survives
returns-clause-survives g c = query_survives get_part_is _ _ _ c.query_all.ensures.survives
