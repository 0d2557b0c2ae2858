-- The flight of a row in range.
use Rattle.table_audits.proofs.Common.{Designator, FlightDate, List, None, Option, Some, flight_of, flight_text, is_day, is_designator, is_flight_text, is_written, natural, pos, refl, sym, true, true≢false, ℕ, ℤ, ◌≡◌}
use Rattle.imp_fields.proofs.SameFlight.{bytes_eq-true}
use Rattle.row_codec.proofs.Noted.{is_read}
use Rattle.table_audits.proofs.Each.{natural_again}

pub text_of : (text : List ℕ) → is_flight_text text ≡ true → (f : Designator) × (is_designator f ≡ true) × (flight_text f ≡ text)
text_of text h = go (flight_of text) refl h
  where
    go : (o : Option Designator) → flight_of text ≡ o → is_written text o ≡ true → (f : Designator) × (is_designator f ≡ true) × (flight_text f ≡ text)
    go None e is = absurd (true≢false (sym is))
    go (Some f) e is = (f, is_read text f e, bytes_eq-true _ _ is)

-- the flight of a text and a day in range
pub flight_at : (text : List ℕ) (day : ℤ) → is_flight_text text ≡ true → is_day day ≡ true → (f : FlightDate) × (is_designator f.flight ≡ true) × (flight_text f.flight ≡ text) × (pos f.day ≡ day)
flight_at text day h k =
    let d = text_of text h in
    (record { flight = d.0; day = natural day }, d.1, d.2, natural_again 10957 47481 day k)
