use Rattle.station_rows.proofs.Common.{flight_row, noted_flight_meant, noted_flight_read, refl}
use Rattle.station_rows.proofs.ReadLemmas.{query_survives, all_told}
use Rattle.station_rows.proofs.Texts.{all_flight_is}
use Rattle.station_rows.proofs.FlightLemmas.{lists_all_flights}
use Rattle.station_rows.proofs.flights.AllFlightsRead.run.Goals as goal

pub returns-clause-read : goal.returns-clause-read
returns-clause-read g c =
    all_told noted_flight_meant flight_row noted_flight_read (λ _. refl) g.S.Store c.args.conn.now c.all_rows.new.conn lists_all_flights _ c.all_rows.ensures.read

pub returns-clause-survives : goal.returns-clause-survives
returns-clause-survives g c = query_survives all_flight_is _ _ _ c.all_rows.ensures.survives
