-- The rows that a station's readers hand out.
use Rattle.std.specs.Prelude.{ℕ, Bool, ◌&&◌, nat_le, take, slice_range, codes, List, length, ◌≡◌, max, ◌+◌, ◌-◌, ◌||◌, ◌==◌, not, nat_lt, if◌then◌else◌, IsTrue, Option, Some, None, [], ◌∷◌, map, drop, filter, true, false}
use Rattle.station_core.specs.Common.{list_all, find, flat_map, sum_by, is_sorted, nat_cmp, ordering_then, slice_cmp, Ordering, option_map, flight_text, less, Declared, FlightDate, Expected, Move, Outbound, Built, same_flight_date, taken, found, free, store, departed, delivered, missing, transferred, waybills_of, waybills_on, built, same_place, Cargo, declaration, IrregularRow, ShedRow, bytes_eq, number_text}
use Rattle.station_core.specs.declared.rows.AnnouncedRow.{AnnouncedRow}
use Rattle.station_core.specs.declared.rows.NotedFlight.{NotedFlight}
use Rattle.station_core.specs.declared.rows.FlightRow.{FlightRow}
use Rattle.station_core.specs.declared.rows.Expectation.{Expectation}
use Rattle.station_core.specs.declared.rows.ExpectedRow.{ExpectedRow}
use Rattle.station_core.specs.declared.rows.ExpectedQuery.{ExpectedQuery}
use Rattle.station_core.specs.declared.rows.ExpectedQuery.TheVariants as expected
use Rattle.station_core.specs.declared.rows.BookRow.{BookRow}
use Rattle.station_core.specs.declared.rows.BookQuery.{BookQuery}
use Rattle.station_core.specs.declared.rows.BookQuery.TheVariants as book
use Rattle.station_core.specs.declared.rows.Message.{Message}
use Rattle.station_core.specs.declared.rows.MessageQuery.{MessageQuery}
use Rattle.station_core.specs.declared.rows.MessageQuery.TheVariants as messages
use Rattle.station_core.specs.declared.rows.TrailRow.{TrailRow}
use Rattle.station_core.specs.declared.rows.TrailQuery.{TrailQuery}
use Rattle.station_core.specs.declared.rows.TrailQuery.TheVariants as trail
use Rattle.station_core.specs.declared.rows.Waybill.{Waybill}

-- The keys of commands.

abbrev pub is_key_byte : ℕ → Bool
is_key_byte b = nat_le 33 b && nat_le b 126

-- one to forty printable bytes without spaces
abbrev pub is_key : List ℕ → Bool
is_key text = nat_le 1 (length text) && nat_le (length text) 40 && list_all is_key_byte text

-- the record of a declared waybill
abbrev pub told_of : Cargo → ℕ → Declared → Waybill
told_of s w d = record {
  declared = d;
  taken = taken s.book w;
  found = found s.book w;
  store = store s.book w;
  departed = departed s.book w;
  delivered = delivered s.book w;
  missing = missing s.book w;
  transferred = transferred s.book w;
}

-- the record of a waybill, None if it isn't declared
abbrev pub waybill_of : Cargo → ℕ → Option Waybill
waybill_of s w = option_map (told_of s w) (s.declared w)

-- the waybills with pieces missing or found, ascending
abbrev pub is_irregular : Cargo → ℕ → Bool
is_irregular s w = nat_lt 0 (missing s.book w).pieces || nat_lt 0 (found s.book w).pieces

abbrev pub irregular_row : Cargo → ℕ → IrregularRow
irregular_row s w = record {
  awb = w;
  origin = (declaration s w).origin;
  destination = (declaration s w).destination;
  missing = missing s.book w;
  found = found s.book w;
}

abbrev pub irregular_rows : Cargo → List IrregularRow
irregular_rows s = flat_map (λ w. if is_irregular s w then irregular_row s w ∷ [] else []) (waybills_of s.book)

-- the waybills with pieces in store, ascending: their free amount, and the built amount, which is
-- the rest
abbrev pub is_in_shed : Cargo → ℕ → Bool
is_in_shed s w = nat_lt 0 (store s.book w).pieces

abbrev pub shed_row : Cargo → ℕ → ShedRow
shed_row s w = record {
  awb = w;
  origin = (declaration s w).origin;
  destination = (declaration s w).destination;
  free = free s.book w;
  built = less (store s.book w) (free s.book w);
  notified = (declaration s w).notified;
}

abbrev pub shed_rows : Cargo → List ShedRow
shed_rows s = flat_map (λ w. if is_in_shed s w then shed_row s w ∷ [] else []) (waybills_of s.book)

-- pieces of the waybill have come in: taken over or found
abbrev pub has_come : List Move → ℕ → Bool
has_come book w = nat_lt 0 (taken book w).pieces || nat_lt 0 (found book w).pieces

-- what is declared of a waybill of which nothing has come in
abbrev pub announced : Cargo → ℕ → Option Declared
announced s w = if has_come s.book w then None else s.declared w

-- The declared waybills of which nothing has come in, ascending.
pub record AreAnnounced (s : Cargo) (rows : List AnnouncedRow) : Type 0 where
  pub rising : IsTrue (is_sorted nat_cmp (map (λ row. (row.awb, row.declared)) rows))
  pub same : (w : ℕ) → announced s w ≡ option_map (λ row. row.declared) (find (λ row. w == row.awb) rows)

-- Flights are ordered by written form, and then by day.
abbrev pub by_flight : FlightDate → FlightDate → Ordering
by_flight a b = ordering_then (slice_cmp nat_cmp (flight_text a.flight) (flight_text b.flight)) (nat_cmp a.day b.day)

-- The noted flights, each once: a look-up finds a flight's first row.
pub record AreNoted (flights : FlightDate → Option Outbound) (rows : List NotedFlight) : Type 0 where
  pub rising : IsTrue (is_sorted by_flight (map (λ row. (row.flight, row.outbound)) rows))
  pub same : (f : FlightDate) → flights f ≡ option_map (λ row. row.outbound) (find (λ row. same_flight_date f row.flight) rows)

abbrev pub flight_row : Cargo → NotedFlight → FlightRow
flight_row s noted = record {
  noted = noted;
  waybills = length (waybills_on s.book noted.flight);
  pieces = sum_by (λ w. (built s.book w noted.flight).pieces) (waybills_on s.book noted.flight);
  tenths = sum_by (λ w. (built s.book w noted.flight).tenths) (waybills_on s.book noted.flight);
}

abbrev pub AreFlightRows : Cargo → List FlightRow → Type 0
AreFlightRows s rows = (noted : List NotedFlight) × AreNoted s.flights noted × (rows ≡ map (flight_row s) noted)

-- Expectations are ordered by flight and then by waybill.
abbrev pub by_expectation : FlightDate × ℕ → FlightDate × ℕ → Ordering
by_expectation a b = ordering_then (by_flight a.0 b.0) (nat_cmp a.1 b.1)

-- All expectations, each once.
pub record AreExpectations (expected : FlightDate → ℕ → Option Expected) (rows : List Expectation) : Type 0 where
  pub rising : IsTrue (is_sorted by_expectation (map (λ row. ((row.flight, row.awb), row.expected)) rows))
  pub same : (f : FlightDate) (w : ℕ) → expected f w
      ≡ option_map (λ row. row.expected) (find (λ row. same_flight_date f row.flight && (w == row.awb)) rows)

abbrev pub expected_row : Cargo → Expectation → ExpectedRow
expected_row s row = record {
  expectation = row;
  origin = (declaration s row.awb).origin;
  destination = (declaration s row.awb).destination;
}

abbrev pub AreExpectedRows : Cargo → List ExpectedRow → Type 0
AreExpectedRows s rows = (all : List Expectation) × AreExpectations s.expected all × (rows ≡ map (expected_row s) all)

-- true if the query includes the expectation: each, those not checked in, or those of a flight
abbrev pub asks_for : ExpectedQuery → Expectation → Bool
asks_for expected.All row = true
asks_for expected.Open row = not row.expected.checked
asks_for (expected.On flight) row = same_flight_date flight row.flight

-- what a query includes of the line of a waybill on the flight
abbrev pub asked_of : ExpectedQuery → FlightDate → Option Expected → Option Expected
asked_of expected.All f line = line
asked_of expected.Open f None = None
asked_of expected.Open f (Some line) = if line.checked then None else Some line
asked_of (expected.On flight) f line = if same_flight_date flight f then line else None

abbrev pub expected_for : ExpectedQuery → (FlightDate → ℕ → Option Expected) → FlightDate → ℕ → Option Expected
expected_for query lines f w = asked_of query f (lines f w)

abbrev pub AreExpectedBy : ExpectedQuery → Cargo → List ExpectedRow → Type 0
AreExpectedBy query s rows =
    (asked : List Expectation) × AreExpectations (expected_for query s.expected) asked × (rows ≡ map (expected_row s) asked)

-- rows numbered from `n`
abbrev pub numbered : {X Row : Type 0} → (ℕ → X → Row) → ℕ → List X → List Row
numbered row n [] = []
numbered row n (x ∷ xs) = row n x ∷ numbered row (n + 1) xs

-- the movement book
abbrev pub book_row : ℕ → Move → BookRow
book_row n m = record { number = n; movement = m }

abbrev pub book_rows : Cargo → List BookRow
book_rows s = numbered book_row 1 s.book

abbrev pub is_named : FlightDate → Option FlightDate → Bool
is_named f None = false
is_named f (Some g) = same_flight_date f g

-- a movement of a flight: to its built place, from there, or with its name
abbrev pub is_of_flight : FlightDate → Move → Bool
is_of_flight f m = same_place (Built f) m.from || same_place (Built f) m.to || is_named f m.flight

-- the last `n` rows
abbrev pub last_of : {Row : Type 0} → ℕ → List Row → List Row
last_of n rows = drop (length rows - n) rows

-- the queried movements: all, those with a greater number, the last ones, those of a waybill or a
-- flight
abbrev pub movements_for : BookQuery → List BookRow → List BookRow
movements_for book.All rows = rows
movements_for (book.After n) rows = filter (λ row. nat_lt n row.number) rows
movements_for (book.Last n) rows = last_of n rows
movements_for (book.Of w) rows = filter (λ row. row.movement.awb == w) rows
movements_for (book.On f) rows = filter (λ row. is_of_flight f row.movement) rows

abbrev pub book_by : BookQuery → Cargo → List BookRow
book_by query s = movements_for query (book_rows s)

abbrev pub message : ℕ → List ℕ → Message
message n text = record { number = n; text = text }

-- the messages with a greater number
abbrev pub messages_after : ℕ → Cargo → List Message
messages_after n s = numbered message (n + 1) (drop n s.outbox)

-- the unconfirmed messages: those after the last confirmed one
abbrev pub pending_messages : Cargo → List Message
pending_messages s = messages_after s.confirmed s

-- the number after which the queried messages begin, by that of the last confirmed one
abbrev pub begins_after : MessageQuery → ℕ → ℕ
begins_after messages.Pending confirmed = confirmed
begins_after (messages.PendingAfter n) confirmed = max confirmed n
begins_after (messages.After n) confirmed = n

abbrev pub messages_by : MessageQuery → Cargo → List Message
messages_by query s = messages_after (begins_after query s.confirmed) s

-- a status message of a waybill: its second line begins with the number
abbrev pub is_about : ℕ → Message → Bool
is_about w message =
    nat_le 20 (length message.text) && bytes_eq (take 8 message.text) (codes "FSU/12\r\n") && bytes_eq (slice_range message.text 8 20) (number_text w)

-- the status messages of a waybill, confirmed or not
abbrev pub messages_about : ℕ → Cargo → List Message
messages_about w s = filter (is_about w) (messages_after 0 s)

-- the trail, in order
abbrev pub trail_row : ℕ → ℕ × List ℕ → TrailRow
trail_row n row = record { number = n; awb = row.0; line = row.1 }

abbrev pub trail_rows : Cargo → List TrailRow
trail_rows s = numbered trail_row 1 s.trail

-- the queried lines: all, those with a greater number, the last ones, those of a waybill
abbrev pub lines_for : TrailQuery → List TrailRow → List TrailRow
lines_for trail.All rows = rows
lines_for (trail.After n) rows = filter (λ row. nat_lt n row.number) rows
lines_for (trail.Last n) rows = last_of n rows
lines_for (trail.Of w) rows = filter (λ row. row.awb == w) rows

abbrev pub trail_by : TrailQuery → Cargo → List TrailRow
trail_by query s = lines_for query (trail_rows s)
