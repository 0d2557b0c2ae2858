-- The row of a move is within range, and is read as that move.
use Rattle.std.proofs.Common.{◌≡◌, ℕ, ◌<◌, pos, Bool, true, false, Option, Some, is_some, unwrap_or, option_map, IsTrue, refl, ap, ◌∙◌, arith}
use Rattle.row_codec.proofs.Common.{Built, Designator, FlightDate, Hand, IsBookTenths, IsPieces, Move, Place, and_from, and_parts, are_flight_columns, day_column, flight_column, flight_date_of, flight_text, is_day, is_designator, is_move_row, is_number, is_within, move_by, move_row, natural, place_code, place_of, same-is, same_flight_date}
use Rattle.station_schema.specs.Tables as table
use Rattle.row_codec.proofs.FlightKeys.{read_again}
use Rattle.row_codec.proofs.Fits.{within, pieces_fit, tenths_fit}

pub built_again : (on flight : FlightDate) → same_flight_date flight on ≡ true → place_of (pos 3) (Some flight) ≡ Some (Built on)
built_again on flight e = ap (λ (f : FlightDate). Some (Built f)) (same-is flight on e)

pub columns_again : (f : FlightDate) → IsTrue (is_designator f.flight) → flight_date_of (flight_text f.flight) (pos f.day) ≡ Some f
columns_again f is = ap (option_map (λ (d : Designator). let one : FlightDate = record { flight = d; day = f.day } in one)) (read_again f.flight is)

-- a move is read column by column
pub move_is : (row : table.Move) (m : Move) → m.awb ≡ natural row.awb → m.from ≡ unwrap_or (place_of row.src m.flight) Hand → m.to ≡ unwrap_or (place_of row.dst m.flight) Hand → m.pieces ≡ natural row.pieces
    → m.tenths ≡ natural row.tenths → m.flight ≡ flight_date_of row.flight row.fday → m.at ≡ record { day = natural row.day; minute = natural row.minute } → m ≡ move_by row
move_is row m awb from to pieces tenths flight at =
    let there = from ∙ ap (λ (f : Option FlightDate). unwrap_or (place_of row.src f) Hand) flight in
    let then = to ∙ ap (λ (f : Option FlightDate). unwrap_or (place_of row.dst f) Hand) flight in
    λ i. record { awb = awb i; from = there i; to = then i; pieces = pieces i; tenths = tenths i; flight = flight i; at = at i }

-- ---- what is tested of a row

pub record HasColumns (row : table.Move) : Type 0 where
  pub awb : is_number row.awb ≡ true
  pub from : is_some (place_of row.src (flight_date_of row.flight row.fday)) ≡ true
  pub to : is_some (place_of row.dst (flight_date_of row.flight row.fday)) ≡ true
  pub pieces : is_within 1 9999 row.pieces ≡ true
  pub tenths : is_within 0 999_999 row.tenths ≡ true
  pub columns : are_flight_columns row.flight row.fday ≡ true
  pub day : is_day row.day ≡ true
  pub minute : is_within 0 1439 row.minute ≡ true

pub columns_of : (row : table.Move) → is_move_row row ≡ true → HasColumns row
columns_of row h =
    let a = and_parts _ _ h in
    let b = and_parts _ _ a.0 in
    let c = and_parts _ _ b.0 in
    let d = and_parts _ _ c.0 in
    let e = and_parts _ _ d.0 in
    let f = and_parts _ _ e.0 in
    let g = and_parts _ _ f.0 in
    record { awb = g.0; from = g.1; to = f.1; pieces = e.1; tenths = d.1; columns = c.1; day = b.1; minute = a.1 }

pub is_row : (row : table.Move) → HasColumns row → is_move_row row ≡ true
is_row row is =
    and_from _ _ (and_from _ _ (and_from _ _ (and_from _ _ (and_from _ _ (and_from _ _ (and_from _ _ is.awb is.from) is.to) is.pieces) is.tenths) is.columns) is.day) is.minute

pub is_no_row : (row : table.Move) → (HasColumns row → ⊥) → false ≡ is_move_row row
is_no_row row not = go (is_move_row row) refl
  where
    go : (b : Bool) → is_move_row row ≡ b → false ≡ b
    go true e = absurd (not (columns_of row e))
    go false e = refl

-- ---- a move and its row

module _ (n : ℕ) (m : Move) (again : flight_date_of (flight_column m.flight) (day_column m.flight) ≡ m.flight)
    (from : place_of (pos (place_code m.from)) m.flight ≡ Some m.from) (to : place_of (pos (place_code m.to)) m.flight ≡ Some m.to) where
  place_again : (p : Place) → place_of (pos (place_code p)) m.flight ≡ Some p → place_of (pos (place_code p)) (flight_date_of (flight_column m.flight) (day_column m.flight)) ≡ Some p
  place_again p is = ap (place_of (pos (place_code p))) again ∙ is

  or_hand : (p : Place) → place_of (pos (place_code p)) m.flight ≡ Some p → unwrap_or (place_of (pos (place_code p)) (flight_date_of (flight_column m.flight) (day_column m.flight))) Hand ≡ p
  or_hand p is = ap (λ (o : Option Place). unwrap_or o Hand) (place_again p is)

  pub move_again : move_by (move_row n m) ≡ m
  move_again = λ i. record m { from = or_hand m.from from i; to = or_hand m.to to i; flight = again i }

  pub row_fits : IsTrue (are_flight_columns (flight_column m.flight) (day_column m.flight)) → IsTrue (is_number (pos m.awb)) → IsPieces m.pieces → IsBookTenths m.tenths → IsTrue (is_day (pos m.at.day))
      → m.at.minute < 1440 → IsTrue (is_move_row (move_row n m))
  row_fits columns awb pieces tenths day minute =
      and_from _ _ (and_from _ _ (and_from _ _ (and_from _ _ (and_from _ _ (and_from _ _ (and_from _ _ awb (ap is_some (place_again m.from from))) (ap is_some (place_again m.to to)))
      (pieces_fit m.pieces pieces)) (tenths_fit m.tenths tenths)) columns) day) (within 0 1439 m.at.minute (omega arith) (omega (arith, minute)))
