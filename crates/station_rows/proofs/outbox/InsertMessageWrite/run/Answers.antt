use Rattle.station_rows.proofs.Common.{refl, message_meant}
use Rattle.station_rows.proofs.Texts.{insert_message_is}
use Rattle.station_rows.proofs.WriteLemmas.{wrote}
use Rattle.station_rows.proofs.MessageLemmas.{inserts_message}
use Rattle.station_rows.proofs.outbox.InsertMessageWrite.run.Goals as goal

pub returns : goal.returns
returns g c =
    let it = wrote g.S.Store c.args.conn.now c.execute.new.self insert_message_is refl (inserts_message _ _ (message_meant c.args.self.row.now))
    (rw (c.params-to_sql.ensures, c.params-to_sql-2.ensures) at c.execute.ensures.runs) _ c.execute.ensures.survives in
    record { made = it.made; ran = it.ran; survives = it.survives }
