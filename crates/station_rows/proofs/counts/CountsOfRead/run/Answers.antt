use Rattle.station_rows.proofs.Common.{count_meant, count_read, count_row, refl}
use Rattle.station_rows.proofs.ReadLemmas.{query_survives, all_told}
use Rattle.station_rows.proofs.Texts.{list_count_is}
use Rattle.station_rows.proofs.CountLemmas.{lists_count}
use Rattle.station_rows.proofs.counts.CountsOfRead.run.Goals as goal

pub returns-clause-read : goal.returns-clause-read
returns-clause-read g c =
    all_told count_meant count_row count_read (λ _. refl) g.S.Store c.args.conn.now c.all_rows.new.conn (lists_count c.args.self.awb)
    _ (rw c.params-to_sql.ensures at c.all_rows.ensures.read)

pub returns-clause-survives : goal.returns-clause-survives
returns-clause-survives g c = query_survives list_count_is _ _ _ c.all_rows.ensures.survives
