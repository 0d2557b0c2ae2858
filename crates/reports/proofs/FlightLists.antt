-- A cargo's noted flights, what flights are to bring, and what is announced are one list each, and so
-- their reports have one text.
use Rattle.reports.proofs.Common.{AreAnnounced, AreExpectations, AreExpectedBy, AreExpectedRows, AreFlightRows, AreNoted, Cargo, ExpectedRow, FlightDate, FlightRow, IsExpectedReport, IsFlightReport, List, Option, [], ap, asks_for, by_expectation, by_flight, cond, eq-eqb, eqb-true, expected_cells, expected_for, expected_row, false, filter, flight_cells, flight_row, is_awaited, line_by, map, nat_cmp, nat_cmp_total, not, refl, report_text, sym, true, ℕ, ◌==◌, ◌∙◌, ◌∷◌, ◌≡◌}
use Rattle.shipment_machine.specs.Book.{same_flight_date}
use Rattle.shipment_machine.specs.declared.moves.Expected.{Expected}
use Rattle.shipment_machine.specs.declared.moves.Outbound.{Outbound}
use Rattle.shipment_machine.proofs.FlightKeys.{same-is, same-refl}
use Rattle.station_core.specs.declared.rows.AnnouncedRow.{AnnouncedRow}
use Rattle.station_core.specs.declared.rows.NotedFlight.{NotedFlight}
use Rattle.station_core.specs.declared.rows.Expectation.{Expectation}
use Rattle.station_core.specs.declared.rows.ExpectedQuery.{ExpectedQuery}
use Rattle.station_core.specs.declared.rows.ExpectedQuery.TheVariants.{All, Open}
use Rattle.station_core.proofs.Asked.{apart, are_asked, expectation_total, flight_total, is_one, one_is, one-refl}
use Rattle.station_core.proofs.Rising.{one_list}

one_noted : (flights : FlightDate → Option Outbound) (xs ys : List NotedFlight) → AreNoted flights xs → AreNoted flights ys → xs ≡ ys
one_noted flights xs ys are too =
    one_list by_flight same_flight_date (λ (row : NotedFlight). row.flight) (λ (row : NotedFlight). row.outbound) (apart by_flight flight_total) same-is same-refl
    (λ x y flight outbound i. record { flight = flight i; outbound = outbound i }) xs ys are.rising too.rising (λ f. sym (are.same f) ∙ too.same f)

one_expectations : (expected : FlightDate → ℕ → Option Expected) (xs ys : List Expectation) → AreExpectations expected xs → AreExpectations expected ys → xs ≡ ys
one_expectations expected xs ys are too =
    one_list by_expectation is_one (λ (row : Expectation). (row.flight, row.awb)) (λ (row : Expectation). row.expected) (apart by_expectation expectation_total) one_is one-refl
    (λ x y key brings i. record { flight = (key i).0; awb = (key i).1; expected = brings i }) xs ys are.rising too.rising (λ k. sym (are.same k.0 k.1) ∙ too.same k.0 k.1)

pub one_announced : (s : Cargo) (xs ys : List AnnouncedRow) → AreAnnounced s xs → AreAnnounced s ys → xs ≡ ys
one_announced s xs ys are too =
    one_list nat_cmp ◌==◌ (λ (row : AnnouncedRow). row.awb) (λ (row : AnnouncedRow). row.declared) (apart nat_cmp nat_cmp_total) eqb-true (λ a. eq-eqb a a refl)
    (λ x y awb declared i. record { awb = awb i; declared = declared i }) xs ys are.rising too.rising (λ w. sym (are.same w) ∙ too.same w)

pub one_flights : (s : Cargo) (xs ys : List FlightRow) → AreFlightRows s xs → AreFlightRows s ys → xs ≡ ys
one_flights s xs ys are too = are.2 ∙ ap (map (flight_row s)) (one_noted s.flights are.0 too.0 are.1 too.1) ∙ sym too.2

pub one_expected : (query : ExpectedQuery) (s : Cargo) (xs ys : List ExpectedRow) → AreExpectedBy query s xs → AreExpectedBy query s ys → xs ≡ ys
one_expected query s xs ys are too = are.2 ∙ ap (map (expected_row s)) (one_expectations (expected_for query s.expected) are.0 too.0 are.1 too.1) ∙ sym too.2

-- what isn't checked in of all lines is what is asked for
mapped_awaited : (s : Cargo) (all : List Expectation) → filter is_awaited (map (expected_row s) all) ≡ map (expected_row s) (filter (asks_for Open) all)
mapped_awaited s [] = refl
mapped_awaited s (row ∷ all) =
    elim (not row.expected.checked) as (λ b. cond b (expected_row s row ∷ filter is_awaited (map (expected_row s) all)) (filter is_awaited (map (expected_row s) all))
    ≡ map (expected_row s) (cond b (row ∷ filter (asks_for Open) all) (filter (asks_for Open) all))) [
      | true ↦ ap (λ rows. expected_row s row ∷ rows) (mapped_awaited s all)
      | false ↦ mapped_awaited s all
    ]

pub open_expected : (s : Cargo) (rows : List ExpectedRow) → AreExpectedRows s rows → AreExpectedBy Open s (filter is_awaited rows)
open_expected s rows are =
    (filter (asks_for Open) are.0, are_asked Open s.expected are.0 are.1, ap (filter is_awaited) are.2 ∙ mapped_awaited s are.0)

pub one_flight_text : (s : Cargo) (a b : List ℕ) → IsFlightReport s a → IsFlightReport s b → a ≡ b
one_flight_text s a b is too = is.2 ∙ ap (report_text (line_by flight_cells)) (one_flights s is.0 too.0 is.1 too.1) ∙ sym too.2

pub one_expected_text : (s : Cargo) (a b : List ℕ) → IsExpectedReport s a → IsExpectedReport s b → a ≡ b
one_expected_text s a b is too = is.2 ∙ ap (report_text (line_by expected_cells)) (one_expected All s is.0 too.0 is.1 too.1) ∙ sym too.2
