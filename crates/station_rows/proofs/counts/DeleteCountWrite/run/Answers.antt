use Rattle.station_rows.proofs.Common.{refl}
use Rattle.station_rows.proofs.Texts.{delete_count_is}
use Rattle.station_rows.proofs.WriteLemmas.{wrote}
use Rattle.station_rows.proofs.KeyedLemmas.{deletes}
use Rattle.station_rows.proofs.CountLemmas.{count_is, count_table}
use Rattle.station_rows.proofs.counts.DeleteCountWrite.run.Goals as goal

pub returns : goal.returns
returns g c =
    let it = wrote g.S.Store c.args.conn.now c.execute.new.self delete_count_is refl (deletes count_table count_is _ delete_count_is _ _ (c.args.self.awb, c.args.self.place))
    (rw (c.params-to_sql.ensures, c.params-to_sql-2.ensures) at c.execute.ensures.runs) _ c.execute.ensures.survives in
    record { made = it.made; ran = it.ran; survives = it.survives }
