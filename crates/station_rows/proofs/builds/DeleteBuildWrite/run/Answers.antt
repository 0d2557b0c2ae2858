use Rattle.station_rows.proofs.Common.{refl}
use Rattle.station_rows.proofs.Texts.{delete_build_is}
use Rattle.station_rows.proofs.WriteLemmas.{wrote}
use Rattle.station_rows.proofs.KeyedLemmas.{deletes}
use Rattle.station_rows.proofs.BuildLemmas.{build_is, build_table}
use Rattle.station_rows.proofs.builds.DeleteBuildWrite.run.Goals as goal

pub returns : goal.returns
returns g c =
    let it = wrote g.S.Store c.args.conn.now c.execute.new.self delete_build_is refl (deletes build_table build_is _ delete_build_is _ _ (c.args.self.flight.now, (c.args.self.day, c.args.self.awb)))
    (rw (c.params-to_sql.ensures, c.params-to_sql-2.ensures, c.params-to_sql-3.ensures) at c.execute.ensures.runs) _ c.execute.ensures.survives in
    record { made = it.made; ran = it.ran; survives = it.survives }
