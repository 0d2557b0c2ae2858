use Rattle.station_rows.proofs.Common.{build_meant, build_read, build_row, refl}
use Rattle.station_rows.proofs.ReadLemmas.{query_survives, first_told}
use Rattle.station_rows.proofs.Texts.{get_build_is}
use Rattle.station_rows.proofs.KeyedLemmas.{gets}
use Rattle.station_rows.proofs.BuildLemmas.{build_is, build_table}
use Rattle.station_rows.proofs.builds.BuildOnRead.run.Goals as goal

pub returns-clause-read : goal.returns-clause-read
returns-clause-read g c =
    first_told build_meant build_row build_read (λ _. refl) g.S.Store c.args.conn.now c.first_row.new.conn _
    (gets build_table build_is get_build_is build_row (λ _ _ _. refl) (c.args.self.flight.now, (c.args.self.day, c.args.self.awb))) _ (rw (c.params-to_sql.ensures, c.params-to_sql-2.ensures, c.params-to_sql-3.ensures) at c.first_row.ensures.read)

pub returns-clause-survives : goal.returns-clause-survives
returns-clause-survives g c = query_survives get_build_is _ _ _ c.first_row.ensures.survives
