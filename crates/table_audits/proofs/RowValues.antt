-- A row that was read is lawful exactly where its value is.
use Rattle.table_audits.proofs.Common.{Bool, Expected, ExpectedKey, Flight, FlightDate, FlightKey, List, None, Option, Some, ap, arith, expectation_by, expected_by, false, flight_date_of, int_le, ints, is_expected_row, is_within, nat_le, natural, negsuc, noted_by, option_map, outbound_by, pos, refl, sym, true, ℕ, ℤ, ◌&&◌, ◌∙◌, ◌≡◌}
use Rattle.shipment_machine.specs.declared.moves.Expected as cargo
use Rattle.station_core.specs.declared.rows.Expectation.{Expectation}
use Rattle.station_core.specs.declared.rows.NotedFlight.{NotedFlight}
use Rattle.table_audits.proofs.Each.{natural_again}
use Rattle.table_audits.proofs.ExpectedLaws.{in_range}

-- a row that fails the first test isn't lawful
pub unlawful : (a b : Bool) → false ≡ a → false ≡ (a && b)
unlawful true b h = absurd (cc)
unlawful false b h = refl

-- one that passes it is lawful where it passes the other
pub as_tested : (a b s : Bool) → true ≡ a → s ≡ b → s ≡ (a && b)
as_tested true b s h is = is
as_tested false b s h is = absurd (cc)

-- ---- a row of `flight`

abbrev unload_or : List ℕ → Option NotedFlight → List ℕ
unload_or text None = text
unload_or text (Some one) = one.outbound.unload

pub unload_is : (row : FlightKey × Flight) (one : NotedFlight) → Some one ≡ noted_by row → one.outbound.unload ≡ row.1.unload
unload_is row one is = go (flight_date_of row.0.0 row.0.1) is
  where
    go : (o : Option FlightDate) → Some one ≡ option_map (λ (f : FlightDate). let noted : NotedFlight = record { flight = f; outbound = outbound_by row.1 } in noted) o → one.outbound.unload ≡ row.1.unload
    go None h = ap (unload_or row.1.unload) h
    go (Some f) h = ap (unload_or row.1.unload) h

-- ---- a row of `expected`

abbrev awb_or : ℕ → Option Expectation → ℕ
awb_or w None = w
awb_or w (Some one) = one.awb

abbrev expected_or : cargo.Expected → Option Expectation → cargo.Expected
expected_or e None = e
expected_or e (Some one) = one.expected

module _ (row : ExpectedKey × Expected) (one : Expectation) (is : Some one ≡ expectation_by row) (fits : true ≡ is_expected_row row) where
  abbrev said : Option FlightDate → Option Expectation
  said = option_map (λ (f : FlightDate). let listed : Expectation = record { flight = f; awb = natural row.0.1.1; expected = expected_by row.1 } in listed)

  awb_is : one.awb ≡ natural row.0.1.1
  awb_is = go (flight_date_of row.0.0 row.0.1.0) is
    where
      go : (o : Option FlightDate) → Some one ≡ said o → one.awb ≡ natural row.0.1.1
      go None h = ap (awb_or (natural row.0.1.1)) h
      go (Some f) h = ap (awb_or (natural row.0.1.1)) h

  expected_is : one.expected ≡ expected_by row.1
  expected_is = go (flight_date_of row.0.0 row.0.1.0) is
    where
      go : (o : Option FlightDate) → Some one ≡ said o → one.expected ≡ expected_by row.1
      go None h = ap (expected_or (expected_by row.1)) h
      go (Some f) h = ap (expected_or (expected_by row.1)) h

  pub number_is : pos one.awb ≡ row.0.1.1
  number_is = ap pos awb_is ∙ natural_again 0 9_999_999_999 row.0.1.1 (in_range row (sym fits)).number

  pub enough_is : nat_le one.expected.pieces one.expected.tenths ≡ int_le row.1.pieces row.1.tenths
  enough_is = ap (λ (e : cargo.Expected). nat_le e.pieces e.tenths) expected_is ∙ enough row.1.pieces row.1.tenths (in_range row (sym fits)).pieces (in_range row (sym fits)).tenths
    where
      enough : (p t : ℤ) → is_within 1 9999 p ≡ true → is_within 0 999_999 t ≡ true → nat_le (natural p) (natural t) ≡ int_le p t
      enough (pos p) (pos t) a b = grind (arith, ints)
      enough (negsuc p) t a b = absurd (let no : ⊥ = grind (arith, ints) in no)
      enough (pos p) (negsuc t) a b = absurd (let no : ⊥ = grind (arith, ints) in no)
