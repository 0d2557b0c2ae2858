use Rattle.station_rows.proofs.Common.{refl, build_meant}
use Rattle.station_rows.proofs.Texts.{update_build_is}
use Rattle.station_rows.proofs.WriteLemmas.{wrote}
use Rattle.station_rows.proofs.KeyedLemmas.{updates}
use Rattle.station_rows.proofs.BuildLemmas.{build_is, build_table}
use Rattle.station_rows.proofs.builds.UpdateBuildWrite.run.Goals as goal

pub returns : goal.returns
returns g c =
    let it = wrote g.S.Store c.args.conn.now c.execute.new.self update_build_is refl (updates build_table build_is _ update_build_is _ _ (build_meant c.args.self.row.now))
    (rw (c.params-to_sql.ensures, c.params-to_sql-2.ensures, c.params-to_sql-3.ensures, c.params-to_sql-4.ensures, c.params-to_sql-5.ensures) at c.execute.ensures.runs) _ c.execute.ensures.survives in
    record { made = it.made; ran = it.ran; survives = it.survives }
