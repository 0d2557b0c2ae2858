use Rattle.station_rows.proofs.Common.{refl, trail_meant}
use Rattle.station_rows.proofs.Texts.{insert_trail_is}
use Rattle.station_rows.proofs.WriteLemmas.{wrote}
use Rattle.station_rows.proofs.TrailLemmas.{inserts_trail}
use Rattle.station_rows.proofs.trail.InsertTrailLineWrite.run.Goals as goal

pub returns : goal.returns
returns g c =
    let it = wrote g.S.Store c.args.conn.now c.execute.new.self insert_trail_is refl (inserts_trail _ _ (trail_meant c.args.self.row.now))
    (rw (c.params-to_sql.ensures, c.params-to_sql-2.ensures, c.params-to_sql-3.ensures) at c.execute.ensures.runs) _ c.execute.ensures.survives in
    record { made = it.made; ran = it.ran; survives = it.survives }
