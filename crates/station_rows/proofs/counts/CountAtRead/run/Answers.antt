use Rattle.station_rows.proofs.Common.{count_meant, count_read, count_row, refl}
use Rattle.station_rows.proofs.ReadLemmas.{query_survives, first_told}
use Rattle.station_rows.proofs.Texts.{get_count_is}
use Rattle.station_rows.proofs.KeyedLemmas.{gets}
use Rattle.station_rows.proofs.CountLemmas.{count_is, count_table}
use Rattle.station_rows.proofs.counts.CountAtRead.run.Goals as goal

pub returns-clause-read : goal.returns-clause-read
returns-clause-read g c =
    first_told count_meant count_row count_read (λ _. refl) g.S.Store c.args.conn.now c.first_row.new.conn _
    (gets count_table count_is get_count_is count_row (λ _ _ _. refl) (c.args.self.awb, c.args.self.place)) _ (rw (c.params-to_sql.ensures, c.params-to_sql-2.ensures) at c.first_row.ensures.read)

pub returns-clause-survives : goal.returns-clause-survives
returns-clause-survives g c = query_survives get_count_is _ _ _ c.first_row.ensures.survives
