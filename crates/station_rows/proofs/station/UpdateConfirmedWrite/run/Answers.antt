use Rattle.station_rows.proofs.Common.{refl}
use Rattle.station_rows.proofs.Texts.{confirm_is}
use Rattle.station_rows.proofs.WriteLemmas.{wrote}
use Rattle.station_rows.proofs.StationLemmas.{confirms}
use Rattle.station_rows.proofs.station.UpdateConfirmedWrite.run.Goals as goal

pub returns : goal.returns
returns g c =
    let it = wrote g.S.Store c.args.conn.now c.execute.new.self confirm_is refl (confirms _ _ c.args.self.confirmed)
    (rw c.params-to_sql.ensures at c.execute.ensures.runs) _ c.execute.ensures.survives in
    record { made = it.made; ran = it.ran; survives = it.survives }
