-- Keys tie where their flights are one.
use Rattle.state_store.proofs.Common.{Equal, FlightDate, FlightKey, Greater, Less, Ordering, and_from, and_parts, ap, arith, by_flight, by_key, eq-eqb, eqb-true, is_eq, key_total, line_of, nat_cmp, nat_cmp-IsAntisymmetric, nat_tests, one_by_text, ordering_then, refl, same-is, same-refl, same_flight_date, same_line, slice_cmp-IsAntisymmetric, sym, tied_itself, true≢false, ℕ, ◌∙◌, ◌≡◌}
use Rattle.imp_fields.specs.Fields.{flight_text}
use Rattle.state_store.proofs.Keyed.{IsKeyed}

pub both_equal : (a b : Ordering) → ordering_then a b ≡ Equal → (a ≡ Equal) × (b ≡ Equal)
both_equal Less b h = absurd (true≢false (sym (ap is_eq h)))
both_equal Equal b h = (refl, h)
both_equal Greater b h = absurd (true≢false (sym (ap is_eq h)))

-- keys that tie are of one flight
pub one_flight : (a b : FlightKey) → by_key a b ≡ Equal → a.flight ≡ b.flight
one_flight a b h =
    let parts = both_equal _ _ h in
    let texts : flight_text a.flight.flight ≡ flight_text b.flight.flight = slice_cmp-IsAntisymmetric nat_cmp-IsAntisymmetric _ _ parts.0 in
    let flights = one_by_text a.flight.flight b.flight.flight a.is_flight b.is_flight texts in
    let days = nat_cmp-IsAntisymmetric a.flight.day b.flight.day parts.1 in
    λ i. record { flight = flights i; day = days i }

pub flight_tied : (k e : FlightKey) → k.flight ≡ e.flight → by_key k e ≡ Equal
flight_tied k e one = ap (λ (f : FlightDate). by_flight f e.flight) one ∙ tied_itself key_total e

pub by_flight_keyed : IsKeyed by_key (λ (k : FlightKey). k.flight) same_flight_date
by_flight_keyed = record { one = same-is; itself = same-refl; ties = one_flight; tied = flight_tied }

-- the order of the lines
abbrev pub by_line : FlightKey × ℕ → FlightKey × ℕ → Ordering
by_line a b = ordering_then (by_key a.0 b.0) (nat_cmp a.1 b.1)

pub by_line_keyed : IsKeyed by_line line_of same_line
by_line_keyed = record {
  one = λ a b h. let parts = and_parts _ _ h in let flights = same-is a.0 b.0 parts.0 in let numbers = eqb-true a.1 b.1 parts.1 in λ i. (flights i, numbers i);
  itself = λ a. and_from _ _ (same-refl a.0) (eq-eqb a.1 a.1 refl);
  ties = λ k e h. let parts = both_equal _ _ h in let flights = one_flight k.0 e.0 parts.0 in let numbers = nat_cmp-IsAntisymmetric k.1 e.1 parts.1 in λ i. (flights i, numbers i);
  tied = λ k e one. ap (λ (r : Ordering). ordering_then r (nat_cmp k.1 e.1)) (flight_tied k.0 e.0 (ap (λ (p : FlightDate × ℕ). p.0) one)) ∙ same_numbers k.1 e.1 (ap (λ (p : FlightDate × ℕ). p.1) one);
}
  where
    same_numbers : (v w : ℕ) → v ≡ w → nat_cmp v w ≡ Equal
    same_numbers v w e = grind (arith, nat_tests)
