use Rattle.station_rows.proofs.Common.{flight_meant, flight_read, refl}
use Rattle.station_rows.proofs.ShownRows.{flight_shown}
use Rattle.station_rows.proofs.ReadLemmas.{query_survives, first_told}
use Rattle.station_rows.proofs.Texts.{get_flight_is}
use Rattle.station_rows.proofs.KeyedLemmas.{gets_value}
use Rattle.station_rows.proofs.FlightLemmas.{flight_is, flight_table}
use Rattle.station_rows.proofs.flights.FlightOnRead.run.Goals as goal

pub returns-clause-read : goal.returns-clause-read
returns-clause-read g c =
    first_told flight_meant flight_shown flight_read (λ _. refl) g.S.Store c.args.conn.now c.first_row.new.conn _
    (gets_value flight_table flight_is get_flight_is flight_shown (λ _ _ _. refl) (c.args.self.flight.now, c.args.self.day)) _ (rw (c.params-to_sql.ensures, c.params-to_sql-2.ensures) at c.first_row.ensures.read)

pub returns-clause-survives : goal.returns-clause-survives
returns-clause-survives g c = query_survives get_flight_is _ _ _ c.first_row.ensures.survives
