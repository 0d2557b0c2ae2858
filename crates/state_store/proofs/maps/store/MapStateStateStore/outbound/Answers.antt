use Rattle.state_store.proofs.Common.{Cargo, FlightKey, ap, by_key, get, rules, same_flight_date, ◌∙◌, ◌≡◌}
use Rattle.state_store.proofs.Keyed.{found_by}
use Rattle.state_store.proofs.Surviving.{cargo_is, reads_so}
use Rattle.state_store.proofs.Tied.{by_flight_keyed}
use Rattle.state_store.proofs.maps.store.MapStateStateStore.outbound.Goals as goal

pub returns : goal.returns
returns c = reads_so _ _ _ (λ s h.
    let k = c.args.self.now in
    let flight = c.args.flight.now in
    let found : c.copied.result ≡ get by_key k.flights c.of.result = search rules in
    found ∙ found_by by_key (λ (q : FlightKey). q.flight) same_flight_date by_flight_keyed k.flights.entries c.of.result flight c.of.ensures
    ∙ ap (λ (g : Cargo). g.flights flight) (cargo_is k s h))
