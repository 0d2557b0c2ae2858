use Rattle.station_rows.proofs.Common.{build_meant, build_read, build_row, refl}
use Rattle.station_rows.proofs.ReadLemmas.{query_survives, all_told}
use Rattle.station_rows.proofs.Texts.{list_build_is}
use Rattle.station_rows.proofs.BuildLemmas.{lists_build}
use Rattle.station_rows.proofs.builds.BuildsOnRead.run.Goals as goal

pub returns-clause-read : goal.returns-clause-read
returns-clause-read g c =
    all_told build_meant build_row build_read (λ _. refl) g.S.Store c.args.conn.now c.all_rows.new.conn (lists_build c.args.self.flight.now c.args.self.day)
    _ (rw (c.params-to_sql.ensures, c.params-to_sql-2.ensures) at c.all_rows.ensures.read)

pub returns-clause-survives : goal.returns-clause-survives
returns-clause-survives g c = query_survives list_build_is _ _ _ c.all_rows.ensures.survives
