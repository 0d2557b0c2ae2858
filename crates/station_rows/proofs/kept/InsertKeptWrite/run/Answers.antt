use Rattle.station_rows.proofs.Common.{refl}
use Rattle.station_rows.proofs.Texts.{insert_kept_is}
use Rattle.station_rows.proofs.WriteLemmas.{wrote}
use Rattle.station_rows.proofs.KeyedLemmas.{inserts}
use Rattle.station_rows.proofs.KeptLemmas.{kept_is, kept_table}
use Rattle.station_rows.proofs.kept.InsertKeptWrite.run.Goals as goal

pub returns : goal.returns
returns g c =
    let it = wrote g.S.Store c.args.conn.now c.execute.new.self insert_kept_is refl (inserts kept_table kept_is _ insert_kept_is _ _ (c.args.self.id.now, (record { command = c.args.self.command.now; count = c.args.self.count })))
    (rw (c.params-to_sql.ensures, c.params-to_sql-2.ensures, c.params-to_sql-3.ensures) at c.execute.ensures.runs) _ c.execute.ensures.survives in
    record { made = it.made; ran = it.ran; survives = it.survives }
