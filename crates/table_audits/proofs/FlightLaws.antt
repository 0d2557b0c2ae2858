-- The rows of `flight` are lawful exactly where the table is.
use Rattle.table_audits.proofs.Common.{AreFlights, Bool, Flight, FlightDate, FlightKey, IfSome, List, None, Option, Outbound, Some, Tables, airport_in, all_from_test, and_from, and_parts, ap, ap₂, at_key, bytes_eq, cargo_in, cond, cond-true, each_entry, entries, false, flight_cmp, flight_key, flight_same, flight_total, flights_in, get, is_designator, is_flight_row, is_lawful_flight, list_all, not, option_map, outbound_by, refl, subst, sym, test_from_all, true, ℕ, ◌∙◌, ◌≡◌}
use Rattle.table_audits.proofs.Each.{both_lists}
use Rattle.table_audits.proofs.FlightRows.{flight_at}

not_true : (b : Bool) → not b ≡ true → b ≡ false
not_true true h = absurd (cc)
not_true false h = refl

not_false : (b : Bool) → b ≡ false → not b ≡ true
not_false true h = absurd (cc)
not_false false h = refl

module _ (t : Tables) (here : List ℕ) (at : airport_in t.stations ≡ here) where
  abbrev IsElsewhere : Option Outbound → Type 0
  IsElsewhere o = IfSome o (λ o. bytes_eq o.unload (cargo_in t).here ≡ false)

  elsewhere : (row : FlightKey × Flight) → is_lawful_flight here row ≡ true → bytes_eq row.1.unload (airport_in t.stations) ≡ false
  elsewhere row h = ap (bytes_eq row.1.unload) at ∙ not_true (bytes_eq row.1.unload here) (and_parts (is_flight_row row) (not (bytes_eq row.1.unload here)) h).1

  pub are_flights : list_all (is_lawful_flight here) (entries t.flights) ≡ true → AreFlights t
  are_flights all = record {
    rows = (both_lists is_flight_row (λ row. not (bytes_eq row.1.unload here)) (entries t.flights) all).0;
    outbound = λ f. go f (is_designator f.flight) (get t.flights (flight_key f)) refl;
  }
    where
      go : (f : FlightDate) (b : Bool) (o : Option Flight) → get t.flights (flight_key f) ≡ o → IsElsewhere (cond b (option_map outbound_by o) None)
      go f false o is = tt
      go f true None is = tt
      go f true (Some row) is = elsewhere (flight_key f, row) (at_key flight_cmp flight_total flight_same (λ e. is_lawful_flight here e ≡ true) t.flights (all_from_test (is_lawful_flight here) (entries t.flights) all) (flight_key f) row is)

  pub lawful_flights : AreFlights t → list_all (is_lawful_flight here) (entries t.flights) ≡ true
  lawful_flights law = test_from_all (is_lawful_flight here) (entries t.flights) (each_entry flight_cmp flight_total (λ e. is_lawful_flight here e ≡ true) t.flights go)
    where
      go : (key : FlightKey) (row : Flight) → get t.flights key ≡ Some row → is_lawful_flight here (key, row) ≡ true
      go key row has =
          let fits : is_flight_row (key, row) ≡ true = at_key flight_cmp flight_total flight_same (λ e. is_flight_row e ≡ true) t.flights (all_from_test is_flight_row (entries t.flights) law.rows) key row has in
          let a = and_parts _ _ (and_parts _ _ (and_parts _ _ fits).0).0 in
          let f = flight_at key.0 key.1 a.0 a.1 in
          let same : flight_key f.0 ≡ key = ap₂ (λ x y. (x, y)) f.2 f.3 in
          let seen : flights_in t.flights f.0 ≡ Some (outbound_by row) = cond-true (is_designator (f.0).flight) (option_map outbound_by (get t.flights (flight_key f.0))) None f.1 ∙ ap (option_map outbound_by) (ap (get t.flights) same ∙ has) in
          let away : bytes_eq row.unload (airport_in t.stations) ≡ false = subst IsElsewhere seen (law.outbound f.0) in
          and_from _ _ fits (not_false (bytes_eq row.unload here) (ap (bytes_eq row.unload) (sym at) ∙ away))
