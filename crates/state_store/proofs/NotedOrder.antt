-- The entries of flights as the rows of the readers.
use Rattle.state_store.proofs.Common.{AreNoted, BTreeMap, FlightKey, IsStrictlySortedBy, List, ap, by_flight, by_key, flights_in, is_sorted, keys_of, map, refl, same_flight_date, subst, sym, ◌∙◌, ◌≡◌}
use Rattle.shipment_machine.specs.declared.moves.Outbound.{Outbound}
use Rattle.station_core.specs.declared.rows.NotedFlight.{NotedFlight}
use Rattle.state_store.proofs.InOrder.{found_in, map_map, sorted}

abbrev pub noted_of : FlightKey × Outbound → NotedFlight
noted_of e = record { flight = e.0.flight; outbound = e.1 }

pub are_noted : (m : BTreeMap FlightKey Outbound) (rows : List NotedFlight) → IsStrictlySortedBy by_key (keys_of m.entries) → rows ≡ map noted_of m.entries → AreNoted (flights_in m) rows
are_noted m rows ordered are = subst (AreNoted (flights_in m)) (sym are) (record {
  rising = ap (is_sorted by_flight) (map_map (λ (row : NotedFlight). (row.flight, row.outbound)) noted_of m.entries) ∙ sorted by_key by_flight (λ (k : FlightKey). k.flight) (λ a b. refl) m.entries ordered;
  same = λ f. found_in (λ k. same_flight_date f k.flight) noted_of (λ row. same_flight_date f row.flight) (λ row. row.outbound) (λ e. refl) (λ e. refl) m.entries;
})
