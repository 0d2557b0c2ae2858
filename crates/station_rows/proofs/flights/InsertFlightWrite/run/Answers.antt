use Rattle.station_rows.proofs.Common.{refl, flight_meant}
use Rattle.station_rows.proofs.Texts.{insert_flight_is}
use Rattle.station_rows.proofs.WriteLemmas.{wrote}
use Rattle.station_rows.proofs.KeyedLemmas.{inserts}
use Rattle.station_rows.proofs.FlightLemmas.{flight_is, flight_table}
use Rattle.station_rows.proofs.flights.InsertFlightWrite.run.Goals as goal

pub returns : goal.returns
returns g c =
    let it = wrote g.S.Store c.args.conn.now c.execute.new.self insert_flight_is refl (inserts flight_table flight_is _ insert_flight_is _ _ ((c.args.self.flight.now, c.args.self.day), (flight_meant c.args.self.row.now)))
    (rw (c.params-to_sql.ensures, c.params-to_sql-2.ensures, c.params-to_sql-3.ensures, c.params-to_sql-4.ensures) at c.execute.ensures.runs) _ c.execute.ensures.survives in
    record { made = it.made; ran = it.ran; survives = it.survives }
