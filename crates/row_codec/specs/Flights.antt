-- Waybills, flights and manifests in rows.
use Rattle.std.specs.Prelude.{◌≡◌, ℕ, ◌-◌, ℤ, pos, negsuc, int_le, Bool, ◌&&◌, ◌||◌, if◌then◌else◌, List, map, length, true, false, nat_le, Option, Some, None, zero, suc}
use Rattle.row_codec.specs.Common.{range_with_len, int_eq, key_of, serials, most_rows, first_moment_day, last_moment_day, option_map, bytes_eq, FinMap, get, is_letter, is_airport, Designator, is_carrier, flight_of, flight_text, most_flight_number, FlightDate, Outbound, NotedFlight, Flight, FlightKey, flight_cmp, is_utf8, Part, Expectation, Expected, ExpectedKey, expected_cmp, PartKey, part_cmp, most_pieces, most_parts, most_tenths, get_by, is_goods, Declared, Waybill, waybill_id}
use Rattle.shipment_machine.specs.declared.moves.Expected as cargo

-- Whole numbers in rows.

abbrev pub natural : ℤ → ℕ
natural (pos n) = n
natural (negsuc n) = 0

-- from one number to another, inclusive
abbrev pub is_within : ℕ → ℕ → ℤ → Bool
is_within low high z = int_le (pos low) z && int_le z (pos high)

-- the key of a waybill number: up to the last serial of prefix 999
abbrev pub is_number : ℤ → Bool
is_number = is_within 0 (key_of 999 (serials - 1))

-- the value of a column `count` or `confirmed`, or a row's number
abbrev pub is_count : ℤ → Bool
is_count = is_within 0 most_rows

-- a day from 2000-01-01 to 2099-12-31
abbrev pub is_day : ℤ → Bool
is_day = is_within first_moment_day last_moment_day

-- a flag is 1 or 0
abbrev pub flag : Bool → ℤ
flag set = if set then pos 1 else pos 0

abbrev pub is_set : ℤ → Bool
is_set z = int_eq z (pos 1)

abbrev pub is_flag : ℤ → Bool
is_flag z = int_eq z (pos 0) || int_eq z (pos 1)

-- the rows are numbered from 1, in order
abbrev pub AreNumbered : {X : Type 0} → (X → ℤ) → List X → Type 0
AreNumbered number rows = map number rows ≡ map pos (range_with_len 1 (length rows))

-- Outbound flights in the rows of `flight`. A flight is stored in its written form.

abbrev is_letter_or_none : Option ℕ → Bool
is_letter_or_none None = true
is_letter_or_none (Some b) = is_letter b

-- a designator that can be written
abbrev pub is_designator : Designator → Bool
is_designator f = is_carrier f.carrier && nat_le 1 f.number && nat_le f.number most_flight_number && is_letter_or_none f.suffix

abbrev pub is_written : List ℕ → Option Designator → Bool
is_written text None = false
is_written text (Some f) = bytes_eq (flight_text f) text

abbrev pub is_flight_text : List ℕ → Bool
is_flight_text text = is_written text (flight_of text)

-- the flight of a text and a day, if the text is one
abbrev pub flight_date_of : List ℕ → ℤ → Option FlightDate
flight_date_of text day = option_map (λ f. record { flight = f; day = natural day }) (flight_of text)

abbrev pub flight_key : FlightDate → FlightKey
flight_key f = (flight_text f.flight, pos f.day)

-- the note of a flight in a row
abbrev pub outbound_by : Flight → Outbound
outbound_by row = record { unload = row.unload; closed = is_set row.closed }

abbrev pub outbound_row : Outbound → Flight
outbound_row o = record { unload = o.unload; closed = flag o.closed }

-- the flight of a row with its note
abbrev pub noted_by : FlightKey × Flight → Option NotedFlight
noted_by row = option_map (λ f. record { flight = f; outbound = outbound_by row.1 }) (flight_date_of row.0.0 row.0.1)

abbrev pub flights_in : FinMap flight_cmp Flight → FlightDate → Option Outbound
flights_in rows f = if is_designator f.flight then option_map outbound_by (get rows (flight_key f)) else None

-- a flight in written form, and a day
abbrev pub is_flight_key : FlightKey → Bool
is_flight_key key = is_flight_text key.0 && is_day key.1

abbrev pub is_flight_row : FlightKey × Flight → Bool
is_flight_row row = is_flight_key row.0 && is_airport row.1.unload && is_flag row.1.closed

-- Expectations and parts in the rows of `expected` and `part`.

abbrev pub expected_key : FlightDate → ℕ → ExpectedKey
expected_key f w = (flight_text f.flight, (pos f.day, pos w))

abbrev pub expected_by : Expected → cargo.Expected
expected_by row = record { pieces = natural row.pieces; tenths = natural row.tenths; checked = is_set row.checked }

abbrev pub expected_row : cargo.Expected → Expected
expected_row e = record { pieces = pos e.pieces; tenths = pos e.tenths; checked = flag e.checked }

-- the expectation in a row, with its flight and waybill
abbrev pub expectation_by : ExpectedKey × Expected → Option Expectation
expectation_by row =
    option_map (λ f. record { flight = f; awb = natural row.0.1.1; expected = expected_by row.1 }) (flight_date_of row.0.0 row.0.1.0)

abbrev pub expected_in : FinMap expected_cmp Expected → FlightDate → ℕ → Option cargo.Expected
expected_in rows f w = if is_designator f.flight then option_map expected_by (get rows (expected_key f w)) else None

-- a flight in written form, a day and a waybill number
abbrev pub is_expected_key : ExpectedKey → Bool
is_expected_key key = is_flight_text key.0 && is_day key.1.0 && is_number key.1.1

abbrev pub is_expected_row : ExpectedKey × Expected → Bool
is_expected_row row = is_expected_key row.0 && is_within 1 most_pieces row.1.pieces && is_within 0 most_tenths row.1.tenths && is_flag row.1.checked

abbrev pub part_key : Part → PartKey
part_key p = (flight_text p.flight.flight, (pos p.flight.day, (p.airport, pos p.number)))

abbrev pub parts_in : FinMap part_cmp (List ℕ) → Part → Option (List ℕ)
parts_in rows p = if is_designator p.flight.flight then get rows (part_key p) else None

abbrev pub part_by : PartKey → Option Part
part_by key = option_map (λ f. record { flight = f; airport = key.1.1.0; number = natural key.1.1.1 }) (flight_date_of key.0 key.1.0)

-- a flight in written form, a day, an airport and the number of a part
abbrev pub is_part_key : PartKey → Bool
is_part_key key = is_flight_text key.0 && is_day key.1.0 && is_airport key.1.1.0 && is_within 1 most_parts key.1.1.1

-- in range, and the telegram is a text
abbrev pub is_part_row : PartKey × List ℕ → Bool
is_part_row row = is_part_key row.0 && is_utf8 row.1

-- Declarations in the rows of `waybill2`.

-- the day of a declaration, if recorded
abbrev pub since_of : ℤ → Option ℕ
since_of z = if int_eq z (pos 0) then None else Some (natural z)

-- its column; day 0 isn't a day of a moment, and has a column different from that of no day
abbrev pub since_column : Option ℕ → ℤ
since_column None = pos 0
since_column (Some zero) = negsuc 0
since_column (Some (suc n)) = pos (suc n)

abbrev pub is_since : ℤ → Bool
is_since z = int_eq z (pos 0) || is_day z

abbrev pub declared_by : Waybill → Declared
declared_by row = record {
  origin = row.origin;
  destination = row.destination;
  pieces = natural row.pieces;
  tenths = natural row.tenths;
  goods = row.goods;
  notified = is_set row.notified;
  since = since_of row.since;
}

abbrev pub waybill_row : ℕ → Declared → Waybill
waybill_row w d = record {
  awb = pos w;
  origin = d.origin;
  destination = d.destination;
  pieces = pos d.pieces;
  tenths = pos d.tenths;
  goods = d.goods;
  notified = flag d.notified;
  since = since_column d.since;
}

abbrev pub declared_in : List Waybill → ℕ → Option Declared
declared_in rows w = option_map declared_by (get_by waybill_id rows (pos w))

abbrev pub is_waybill_row : Waybill → Bool
is_waybill_row row =
    is_number row.awb && is_airport row.origin && is_airport row.destination && is_within 1 most_pieces row.pieces
    && is_within 0 most_tenths row.tenths && is_goods row.goods && is_flag row.notified && is_since row.since
