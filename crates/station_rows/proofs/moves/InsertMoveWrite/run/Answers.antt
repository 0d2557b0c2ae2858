use Rattle.station_rows.proofs.Common.{refl, move_meant}
use Rattle.station_rows.proofs.Texts.{insert_move_is}
use Rattle.station_rows.proofs.WriteLemmas.{wrote}
use Rattle.station_rows.proofs.MoveLemmas.{inserts_move}
use Rattle.station_rows.proofs.moves.InsertMoveWrite.run.Goals as goal

pub returns : goal.returns
returns g c =
    let it = wrote g.S.Store c.args.conn.now c.execute.new.self insert_move_is refl (inserts_move _ _ (move_meant c.args.self.row.now))
    (rw (c.params-to_sql.ensures, c.params-to_sql-2.ensures, c.params-to_sql-3.ensures, c.params-to_sql-4.ensures, c.params-to_sql-5.ensures, c.params-to_sql-6.ensures, c.params-to_sql-7.ensures, c.params-to_sql-8.ensures, c.params-to_sql-9.ensures, c.params-to_sql-10.ensures) at c.execute.ensures.runs) _ c.execute.ensures.survives in
    record { made = it.made; ran = it.ran; survives = it.survives }
