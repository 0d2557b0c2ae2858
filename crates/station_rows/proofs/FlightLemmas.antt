-- The table `flight`.
use Rattle.station_rows.proofs.Common.{Eq, Flight, FlightKey, Int, Text, [], at_ints, at_texts, cast_int, cast_null, edits_flights, entries, false, flight, flight_cmp, flight_in, flight_row, flight_same, flight_total, last_key, last_term, refl, sym, then_key, then_term, typed_flights, value_cmp-Int, value_cmp-Text, ◌∙◌, ◌∷◌}
use Rattle.station_schema.proofs.Compared.{text_compares, text_eq}
use Rattle.station_rows.proofs.Terms.{Lists}
use Rattle.station_rows.proofs.KeyedLemmas.{IsTableOf, KeyedTable, lists_all}
use Rattle.station_rows.proofs.Texts.{all_flight_is}

abbrev pub flight_table : KeyedTable FlightKey Flight
flight_table = record {
  place = 3;
  table = flight;
  key_width = 2;
  width = 4;
  cmp = flight_cmp;
  key_row = λ k. Text k.0 ∷ Int k.1 ∷ [];
  to_row = flight_row;
  from_row = flight_in;
  map_in = λ tables. tables.flights;
  with_map = λ tables m. record tables { flights = m };
}

pub flight_is : IsTableOf flight_table
flight_is = record {
  total = flight_total;
  same = flight_same;
  placed = record { there = refl; uncounted = refl; unstamped = refl; idle = λ _ _ _. refl };
  typed = typed_flights;
  is_read = λ _. refl;
  places = 1 ∷ 2 ∷ [];
  compares = text_compares flight_row;
  unique = λ _ all. all.1.1.1.0;
  tests = λ k _ _ e. then_term (at_texts false Eq e.0.0 k.0) (last_term (at_ints false Eq e.0.1 k.1)) ∙ sym (text_eq e.0 k);
  begins = λ _. (_, refl);
  casts = λ n e. rw (cast_int n, cast_int e.0.1, cast_int e.1.closed) refl;
  news = λ _ e. rw (cast_null, cast_int e.0.1, cast_int e.1.closed) refl;
  updated = λ _ _ _. refl;
  edits = edits_flights;
}

pub lists_all_flights : Lists all_flight_is [] flight_row (λ tables. entries tables.flights)
lists_all_flights = lists_all flight_table flight_is all_flight_is (λ _ _. refl) (λ _ _. refl) (λ a b. then_key (value_cmp-Text a.0.0 b.0.0) (last_key (value_cmp-Int a.0.1 b.0.1)))
