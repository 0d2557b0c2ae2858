use Rattle.station_rows.proofs.Common.{refl}
use Rattle.station_rows.proofs.Texts.{insert_kept_text_is}
use Rattle.station_rows.proofs.WriteLemmas.{wrote}
use Rattle.station_rows.proofs.KeyedLemmas.{inserts}
use Rattle.station_rows.proofs.KeptTextLemmas.{kept_text_is, kept_text_table}
use Rattle.station_rows.proofs.kept.InsertKeptTextWrite.run.Goals as goal

pub returns : goal.returns
returns g c =
    let it = wrote g.S.Store c.args.conn.now c.execute.new.self insert_kept_text_is refl (inserts kept_text_table kept_text_is _ insert_kept_text_is _ _ (c.args.self.body.now, c.args.self.count))
    (rw (c.params-to_sql.ensures, c.params-to_sql-2.ensures) at c.execute.ensures.runs) _ c.execute.ensures.survives in
    record { made = it.made; ran = it.ran; survives = it.survives }
