-- Flights on a day are compared by their fields.
use Rattle.shipment_machine.proofs.Common.{Bool, FlightDate, and_from, and_parts, ap, eq-eqb, eqb-true, false, refl, same_flight_date, sym, true, true≢false, ◌∙◌, ◌≡◌}
use Rattle.imp_fields.proofs.SameFlight.{one_by_fields, same_of_one}

-- what compares the same is one flight on one day
pub same-is : (a b : FlightDate) → same_flight_date a b ≡ true → a ≡ b
same-is a b e =
    let parts = and_parts _ _ e in
    let flights : a.flight ≡ b.flight = one_by_fields a.flight b.flight parts.0 in
    let days : a.day ≡ b.day = eqb-true a.day b.day parts.1 in
    λ i. record { flight = flights i; day = days i }

pub same-refl : (a : FlightDate) → same_flight_date a a ≡ true
same-refl a = and_from _ _ (same_of_one a.flight a.flight refl) (eq-eqb a.day a.day refl)

pub same-sym : (a b : FlightDate) → same_flight_date a b ≡ true → same_flight_date b a ≡ true
same-sym a b e = ap (λ (x : FlightDate). same_flight_date b x) (same-is a b e) ∙ same-refl b

pub same-alike : (a b c : FlightDate) → same_flight_date a b ≡ true → same_flight_date a c ≡ same_flight_date b c
same-alike a b c e = ap (λ (x : FlightDate). same_flight_date x c) (same-is a b e)

same-either : (a b : FlightDate) (x : Bool) → same_flight_date a b ≡ x → same_flight_date b a ≡ x
same-either a b true e = same-sym a b e
same-either a b false e = elim (same_flight_date b a) as (λ y. same_flight_date b a ≡ y → y ≡ false) [
  | true ↦ λ h. absurd (true≢false (sym (same-sym b a h) ∙ e))
  | false ↦ λ _. refl
] refl

pub same-comm : (a b : FlightDate) → same_flight_date a b ≡ same_flight_date b a
same-comm a b = sym (same-either a b (same_flight_date a b) refl)
