-- What is asked for of what flights are to bring, from the list of all.
use Rattle.station_core.proofs.Common.{AreExpectations, Bool, Expectation, FlightDate, Less, List, None, Option, Ordering, Some, ap, asked_of, asks_for, by_expectation, by_flight, cond, expected_for, false, filter, flight_text, is_lt, not, ordering_reverse, refl, sym, true, ℕ, ◌&&◌, ◌==◌, ◌∙◌, ◌≡◌}
use Rattle.std.specs.Cmp.{IsTotalOrder, nat_cmp_total, on_total, then_total}
use Rattle.std.specs.Cmp.Lexicographic.{nat_list_cmp_total}
use Rattle.std.proofs.lemmas.Bool.{and_parts, and_from, eqb-true, eq-eqb, true≢false}
use Rattle.shipment_machine.specs.Book.{same_flight_date}
use Rattle.shipment_machine.specs.declared.moves.Expected.{Expected}
use Rattle.shipment_machine.proofs.FlightKeys.{same-is, same-refl}
use Rattle.station_core.specs.declared.rows.ExpectedQuery.{ExpectedQuery}
use Rattle.station_core.specs.declared.rows.ExpectedQuery.TheVariants.{All, On, Open}
use Rattle.station_core.proofs.Rising.{found_kept, kept_rise, passing}

pub flight_total : IsTotalOrder by_flight
flight_total = then_total (on_total (λ (f : FlightDate). flight_text f.flight) nat_list_cmp_total) (on_total (λ (f : FlightDate). f.day) nat_cmp_total)

pub expectation_total : IsTotalOrder by_expectation
expectation_total = then_total (on_total (λ (k : FlightDate × ℕ). k.0) flight_total) (on_total (λ (k : FlightDate × ℕ). k.1) nat_cmp_total)

-- no two keys are each below the other
pub apart : {K : Type 0} (R : K → K → Ordering) → IsTotalOrder R → (a b : K) → R a b ≡ Less → R b a ≡ Less → ⊥
apart R total a b ab ba = true≢false (ap is_lt (sym ab ∙ total.antisymm a b ∙ ap ordering_reverse ba))

-- one flight's waybill
abbrev pub is_one : FlightDate × ℕ → FlightDate × ℕ → Bool
is_one a b = same_flight_date a.0 b.0 && (a.1 == b.1)

pub one_is : (a b : FlightDate × ℕ) → is_one a b ≡ true → a ≡ b
one_is a b e =
    let parts = and_parts _ _ e in
    let flight : a.0 ≡ b.0 = same-is a.0 b.0 parts.0 in
    let number : a.1 ≡ b.1 = eqb-true a.1 b.1 parts.1 in
    λ i. (flight i, number i)

pub one-refl : (a : FlightDate × ℕ) → is_one a a ≡ true
one-refl a = and_from _ _ (same-refl a.0) (eq-eqb a.1 a.1 refl)

-- true if the query includes the line of a waybill on a flight
abbrev includes : ExpectedQuery → FlightDate × ℕ → Expected → Bool
includes query k line = asks_for query (record { flight = k.0; awb = k.1; expected = line })

-- what is asked for is what passes
asked_passes : (query : ExpectedQuery) (k : FlightDate × ℕ) (line : Option Expected) → passing (includes query k) line ≡ asked_of query k.0 line
asked_passes All k None = refl
asked_passes All k (Some line) = refl
asked_passes Open k None = refl
asked_passes Open k (Some line) = elim line.checked as (λ b. cond (not b) (Some line) None ≡ cond b None (Some line)) [ true ↦ refl | false ↦ refl ]
asked_passes (On flight) k None = elim (same_flight_date flight k.0) as (λ b. ◌≡◌ {A = Option Expected} None (cond b None None)) [ true ↦ refl | false ↦ refl ]
asked_passes (On flight) k (Some line) = refl

one_row : (x y : Expectation) → ◌≡◌ {A = FlightDate × ℕ} (x.flight, x.awb) (y.flight, y.awb) → x.expected ≡ y.expected → x ≡ y
one_row x y key brings i = record { flight = (key i).0; awb = (key i).1; expected = brings i }

pub are_asked : (query : ExpectedQuery) (lines : FlightDate → ℕ → Option Expected) (rows : List Expectation) → AreExpectations lines rows
    → AreExpectations (expected_for query lines) (filter (asks_for query) rows)
are_asked query lines rows are = record {
  rising = kept_rise by_expectation is_one (λ (row : Expectation). (row.flight, row.awb)) (λ (row : Expectation). row.expected) (apart by_expectation expectation_total) one_is one-refl one_row
      (includes query) rows are.rising;
  same = λ f w.
      sym (asked_passes query (f, w) (lines f w)) ∙ ap (passing (includes query (f, w))) (are.same f w)
      ∙ sym (found_kept by_expectation is_one (λ (row : Expectation). (row.flight, row.awb)) (λ (row : Expectation). row.expected) (apart by_expectation expectation_total) one_is one-refl one_row
      (includes query) (f, w) rows are.rising);
}
