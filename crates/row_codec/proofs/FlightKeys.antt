-- Flights as rows have them: a written designator is read as itself, and keys are one exactly where flights are.
use Rattle.row_codec.proofs.Common.{Bool, Designator, FlightDate, IsDesignator, List, None, Option, Part, Some, and_from, and_parts, ap, ap₂, arith, bytes_cmp, bytes_eq, bytes_eq-refl, bytes_eq-true, eq_by_cmp, expected_cmp, expected_key, false, false_from_ne_true, flight_cmp, flight_key, flight_of, flight_text, int_cmp, int_eq, int_tied, ints, is_designator, is_eq-slice_cmp, is_flight_text, is_written, le-leb, leb-true, one_by_fields, one_by_text, pair_cmp, pair_eq, part_cmp, part_key, pos, refl, same-is, same_flight, same_flight_date, same_of_one, same_part, sym, true, true≢false, ℕ, ◌&&◌, ◌==◌, ◌∙◌, ◌≡◌}
use Rattle.imp_fields.proofs.FieldLaws.{flight_again}

-- ---- the test of a designator

of_test : (carrier : List ℕ) (number : ℕ) (suffix : Option ℕ) → is_designator (record { carrier = carrier; number = number; suffix = suffix }) ≡ true
    → IsDesignator (record { carrier = carrier; number = number; suffix = suffix })
of_test carrier number None h =
    let x = and_parts _ _ h in
    let y = and_parts _ _ x.0 in
    let z = and_parts _ _ y.0 in
    (z.0, leb-true 1 number z.1, leb-true number 9999 y.1, tt)
of_test carrier number (Some b) h =
    let x = and_parts _ _ h in
    let y = and_parts _ _ x.0 in
    let z = and_parts _ _ y.0 in
    (z.0, leb-true 1 number z.1, leb-true number 9999 y.1, x.1)

to_test : (carrier : List ℕ) (number : ℕ) (suffix : Option ℕ) → IsDesignator (record { carrier = carrier; number = number; suffix = suffix })
    → is_designator (record { carrier = carrier; number = number; suffix = suffix }) ≡ true
to_test carrier number None h = and_from _ _ (and_from _ _ (and_from _ _ h.0 (le-leb 1 number h.1)) (le-leb number 9999 h.2)) refl
to_test carrier number (Some b) h = and_from _ _ (and_from _ _ (and_from _ _ h.0 (le-leb 1 number h.1)) (le-leb number 9999 h.2)) h.3

pub is_one : (f : Designator) → is_designator f ≡ true → IsDesignator f
is_one f h = of_test f.carrier f.number f.suffix h

pub designator_test : (f : Designator) → IsDesignator f → is_designator f ≡ true
designator_test f h = to_test f.carrier f.number f.suffix h

-- a written designator is read as itself
pub read_again : (f : Designator) → is_designator f ≡ true → flight_of (flight_text f) ≡ Some f
read_again f is = flight_again f (is_one f is)

pub written_reads : (f : Designator) → is_designator f ≡ true → is_flight_text (flight_text f) ≡ true
written_reads f is = ap (is_written (flight_text f)) (read_again f is) ∙ bytes_eq-refl (flight_text f)

-- ---- keys

same_text : (a b : Designator) → is_designator a ≡ true → is_designator b ≡ true → bytes_eq (flight_text a) (flight_text b) ≡ same_flight a b
same_text a b is_a is_b = go (same_flight a b) refl
  where
    go : (t : Bool) → same_flight a b ≡ t → bytes_eq (flight_text a) (flight_text b) ≡ t
    go true e = ap (λ (f : Designator). bytes_eq (flight_text a) (flight_text f)) (sym (one_by_fields a b e)) ∙ bytes_eq-refl (flight_text a)
    go false e = false_from_ne_true _ (λ h. true≢false (sym (same_of_one a b (one_by_text a b (is_one a is_a) (is_one b is_b) (bytes_eq-true _ _ h))) ∙ e))

pub same_number : (a b : ℕ) → int_eq (pos a) (pos b) ≡ (a == b)
same_number a b = grind (arith, ints)

tied_number : (a b : ℕ) → eq_by_cmp int_cmp (pos a) (pos b) ≡ (a == b)
tied_number a b = int_tied (pos a) (pos b) ∙ same_number a b

pub tied_text : (a b : Designator) → is_designator a ≡ true → is_designator b ≡ true → eq_by_cmp bytes_cmp (flight_text a) (flight_text b) ≡ same_flight a b
tied_text a b is_a is_b = is_eq-slice_cmp (flight_text a) (flight_text b) ∙ same_text a b is_a is_b

pub same_key : (a b : FlightDate) → is_designator a.flight ≡ true → is_designator b.flight ≡ true → eq_by_cmp flight_cmp (flight_key a) (flight_key b) ≡ same_flight_date a b
same_key a b is_a is_b = pair_eq bytes_cmp int_cmp (flight_key a) (flight_key b) ∙ ap₂ ◌&&◌ (tied_text a.flight b.flight is_a is_b) (tied_number a.day b.day)

pub same_designator : (a b : FlightDate) → is_designator b.flight ≡ true → same_flight_date a b ≡ true → is_designator a.flight ≡ true
same_designator a b is e = ap (λ (f : FlightDate). is_designator f.flight) (same-is a b e) ∙ is

-- a flight of a day and a waybill

abbrev pub same_expected : FlightDate × ℕ → FlightDate × ℕ → Bool
same_expected a b = same_flight_date a.0 b.0 && (a.1 == b.1)

three : (a b c : Bool) → (a && (b && c)) ≡ (a && b && c)
three a b c = grind arith

pub same_expected_key : (a b : FlightDate × ℕ) → is_designator a.0.flight ≡ true → is_designator b.0.flight ≡ true → eq_by_cmp expected_cmp (expected_key a.0 a.1) (expected_key b.0 b.1) ≡ same_expected a b
same_expected_key a b is_a is_b =
    pair_eq bytes_cmp (pair_cmp int_cmp int_cmp) (expected_key a.0 a.1) (expected_key b.0 b.1)
    ∙ ap₂ ◌&&◌ (tied_text a.0.flight b.0.flight is_a is_b)
    (pair_eq int_cmp int_cmp (pos a.0.day, pos a.1) (pos b.0.day, pos b.1) ∙ ap₂ ◌&&◌ (tied_number a.0.day b.0.day) (tied_number a.1 b.1))
    ∙ three (same_flight a.0.flight b.0.flight) (a.0.day == b.0.day) (a.1 == b.1)

pub same_expected_designator : (a b : FlightDate × ℕ) → is_designator b.0.flight ≡ true → same_expected a b ≡ true → is_designator a.0.flight ≡ true
same_expected_designator a b is e = same_designator a.0 b.0 is (and_parts (same_flight_date a.0 b.0) (a.1 == b.1) e).0

-- a part of a manifest

four : (a b c d : Bool) → (a && (b && (c && d))) ≡ (a && b && c && d)
four a b c d = grind arith

pub same_part_key : (a b : Part) → is_designator a.flight.flight ≡ true → is_designator b.flight.flight ≡ true → eq_by_cmp part_cmp (part_key a) (part_key b) ≡ same_part a b
same_part_key a b is_a is_b =
    pair_eq bytes_cmp (pair_cmp int_cmp (pair_cmp bytes_cmp int_cmp)) (part_key a) (part_key b)
    ∙ ap₂ ◌&&◌ (tied_text a.flight.flight b.flight.flight is_a is_b)
    (pair_eq int_cmp (pair_cmp bytes_cmp int_cmp) (pos a.flight.day, (a.airport, pos a.number)) (pos b.flight.day, (b.airport, pos b.number))
    ∙ ap₂ ◌&&◌ (tied_number a.flight.day b.flight.day)
    (pair_eq bytes_cmp int_cmp (a.airport, pos a.number) (b.airport, pos b.number) ∙ ap₂ ◌&&◌ (is_eq-slice_cmp a.airport b.airport) (tied_number a.number b.number)))
    ∙ four (same_flight a.flight.flight b.flight.flight) (a.flight.day == b.flight.day) (bytes_eq a.airport b.airport) (a.number == b.number)

pub same_part_designator : (a b : Part) → is_designator b.flight.flight ≡ true → same_part a b ≡ true → is_designator a.flight.flight ≡ true
same_part_designator a b is e =
    same_designator a.flight b.flight is (and_parts (same_flight_date a.flight b.flight) (bytes_eq a.airport b.airport) (and_parts (same_flight_date a.flight b.flight && bytes_eq a.airport b.airport) (a.number == b.number) e).0).0
