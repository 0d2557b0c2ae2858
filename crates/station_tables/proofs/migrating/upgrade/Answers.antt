use Rattle.station_tables.proofs.Common.{state}
use Rattle.station_tables.proofs.Migrated.{has_migrated}
use Rattle.station_tables.proofs.migrating.upgrade.Goals as goal

pub returns-in-Ok-clause-moved : goal.returns-in-Ok-clause-moved
returns-in-Ok-clause-moved g c = λ clean was.
    has_migrated (state g.S.Store c.args.conn) _ was (c.in-Ok.ensures.made clean was) c.shows_own.ensures
    (λ db is_open left. g.met.S.Store.settled c.upgrade_tables.new.conn.store db is_open left)
