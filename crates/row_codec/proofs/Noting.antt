-- What is noted of a flight, of what it brings, and of a part of its manifest is written.
use Rattle.std.proofs.Common.{◌≡◌, ◌==◌, ◌&&◌, ℕ, true, cond, Option, Some, None, option_map, List, ap, ◌∙◌}
use Rattle.row_codec.proofs.Common.{Expect, FlightDate, Means, NoteFlight, NotePart, Outbound, Part, State, Tables, expected_by, expected_cmp, expected_in, expected_key, expected_row, expected_same, expected_total, flight_cmp, flight_key, flight_same, flight_total, flights_in, insert, is_designator, is_expected_row, is_flight_row, is_part_row, meaning_of, on_cargo, outbound_by, outbound_row, part_cmp, part_key, part_same, part_total, parts_in, same_flight_date, same_part, with_expected, with_flight, with_part, written}
use Rattle.shipment_machine.specs.declared.moves.Expected as cargo
use Rattle.row_codec.proofs.Declaring.{flag_again}
use Rattle.row_codec.proofs.FlightKeys.{same_key, same_designator, same_expected, same_expected_key, same_expected_designator, same_part_key, same_part_designator}
use Rattle.row_codec.proofs.Guarded.{seen-insert}
use Rattle.row_codec.proofs.MapLaws.{all-insert}

-- ---- an outbound flight

pub outbound_again : (o : Outbound) → outbound_by (outbound_row o) ≡ o
outbound_again o = λ i. record o { closed = flag_again o.closed i }

module _ (t : Tables) (f : FlightDate) (o : Outbound) (is : is_designator f.flight ≡ true) where
  flight_inserted : (k : FlightDate) → flights_in (insert t.flights (flight_key f) (outbound_row o)) k ≡ cond (same_flight_date k f) (Some o) (flights_in t.flights k)
  flight_inserted k =
      seen-insert flight_cmp flight_total flight_key (λ q. is_designator q.flight) (option_map outbound_by) None same_flight_date same_key same_designator t.flights f (outbound_row o) is k
      ∙ ap (λ (x : Outbound). cond (same_flight_date k f) (Some x) (flights_in t.flights k)) (outbound_again o)

  module _ (s : State) (text : List ℕ) (fits : is_flight_row (flight_key f, outbound_row o) ≡ true) (means : Means t (Some s)) where
    pub notes_flight : Means (with_flight (flight_key f) (outbound_row o) t) (Some (on_cargo (written text (NoteFlight f o)) s))
    notes_flight = (
      assumption (all-insert flight_cmp flight_total flight_same is_flight_row t.flights (flight_key f) (outbound_row o) means.0.flights fits, means),
      (λ i. record (meaning_of t) { cargo = record (meaning_of t).cargo { flights = λ k. flight_inserted k i } }) ∙ ap (on_cargo (written text (NoteFlight f o))) means.1,
    )

-- ---- what a flight is to bring of a waybill

pub expected_again : (e : cargo.Expected) → expected_by (expected_row e) ≡ e
expected_again e = λ i. record e { checked = flag_again e.checked i }

module _ (t : Tables) (f : FlightDate) (w : ℕ) (e : cargo.Expected) (is : is_designator f.flight ≡ true) where
  expected_inserted : (k : FlightDate) (q : ℕ) → expected_in (insert t.expected (expected_key f w) (expected_row e)) k q ≡ cond (same_flight_date k f && (q == w)) (Some e) (expected_in t.expected k q)
  expected_inserted k q =
      seen-insert expected_cmp expected_total (λ (x : FlightDate × ℕ). expected_key x.0 x.1) (λ x. is_designator x.0.flight) (option_map expected_by) None same_expected same_expected_key same_expected_designator
      t.expected (f, w) (expected_row e) is (k, q)
      ∙ ap (λ (x : cargo.Expected). cond (same_flight_date k f && (q == w)) (Some x) (expected_in t.expected k q)) (expected_again e)

  module _ (s : State) (text : List ℕ) (fits : is_expected_row (expected_key f w, expected_row e) ≡ true) (means : Means t (Some s)) where
    pub expects : Means (with_expected (expected_key f w) (expected_row e) t) (Some (on_cargo (written text (Expect f w e)) s))
    expects = (
      assumption (all-insert expected_cmp expected_total expected_same is_expected_row t.expected (expected_key f w) (expected_row e) means.0.expected fits, means),
      (λ i. record (meaning_of t) { cargo = record (meaning_of t).cargo { expected = λ k q. expected_inserted k q i } }) ∙ ap (on_cargo (written text (Expect f w e))) means.1,
    )

-- ---- a part of a manifest

module _ (t : Tables) (p : Part) (telegram : List ℕ) (is : is_designator p.flight.flight ≡ true) where
  part_inserted : (k : Part) → parts_in (insert t.parts (part_key p) telegram) k ≡ cond (same_part k p) (Some telegram) (parts_in t.parts k)
  part_inserted k =
      seen-insert part_cmp part_total part_key (λ (q : Part). is_designator q.flight.flight) (λ (o : Option (List ℕ)). o) None same_part same_part_key same_part_designator t.parts p telegram is k

  pub notes_part : (s : State) → is_part_row (part_key p, telegram) ≡ true → Means t (Some s) → Means (with_part (part_key p) telegram t) (Some (on_cargo (written telegram (NotePart p)) s))
  notes_part s fits means = (
    assumption (all-insert part_cmp part_total part_same is_part_row t.parts (part_key p) telegram means.0.parts fits, means),
    (λ i. record (meaning_of t) { cargo = record (meaning_of t).cargo { parts = λ k. part_inserted k i } }) ∙ ap (on_cargo (written telegram (NotePart p))) means.1,
  )
