use Rattle.station_rows.proofs.Common.{refl, count_meant}
use Rattle.station_rows.proofs.Texts.{insert_count_is}
use Rattle.station_rows.proofs.WriteLemmas.{wrote}
use Rattle.station_rows.proofs.KeyedLemmas.{inserts}
use Rattle.station_rows.proofs.CountLemmas.{count_is, count_table}
use Rattle.station_rows.proofs.counts.InsertCountWrite.run.Goals as goal

pub returns : goal.returns
returns g c =
    let it = wrote g.S.Store c.args.conn.now c.execute.new.self insert_count_is refl (inserts count_table count_is _ insert_count_is _ _ (count_meant c.args.self.row.now))
    (rw (c.params-to_sql.ensures, c.params-to_sql-2.ensures, c.params-to_sql-3.ensures, c.params-to_sql-4.ensures) at c.execute.ensures.runs) _ c.execute.ensures.survives in
    record { made = it.made; ran = it.ran; survives = it.survives }
