use Rattle.state_store.proofs.Common.{FlightDate, FlightKey, NoteFlight, Some, [], by_key, cargo_of, flights_in, if◌then◌else◌, same_flight_date, state_of, written, ◌≡◌}
use Rattle.state_store.proofs.Keyed.{put_in}
use Rattle.state_store.proofs.Tied.{by_flight_keyed}
use Rattle.state_store.proofs.Writing.{shows_more}
use Rattle.state_store.proofs.maps.state.MapState.note_flight.Goals as goal

pub returns : goal.returns
returns c = λ s h.
    let old = c.args.self.now in
    let flight = c.args.flight.now in
    let e : (q : FlightDate) → flights_in c.insert.new.self q ≡ (if same_flight_date q flight then Some c.args.outbound else flights_in old.flights q) = λ q. put_in by_key (λ (k : FlightKey). k.flight) same_flight_date by_flight_keyed old.flights.entries c.insert.new.self.entries c.of.result c.args.outbound flight q c.of.ensures c.in_ok-insert.ensures.entries in
    shows_more old _ s (written [] (NoteFlight flight c.args.outbound)) h (λ i. record (state_of old) { cargo = record (cargo_of old) { flights = λ q. e q i } }) h.summed h.room
