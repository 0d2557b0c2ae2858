-- Queries of the book, of the trail and of a flight.
use Rattle.std.specs.Prelude.{ℕ, ◌-◌, Bool, true, ◌==◌, if◌then◌else◌, List, [], ◌∷◌, is_some, map}
use Rattle.std.proofs.Common.{min}
use Rattle.state_store.specs.Common.{Move, is_of_flight, BookRow, BookQuery, TrailRow, TrailQuery, InboundPart, FlightDate, Part, FlightLoad, Rows, Cargo, lines_for, declaration, line_view_of, Load}
use Rattle.station_core.specs.declared.rows.BookQuery.TheVariants as book
use Rattle.station_core.specs.declared.rows.TrailQuery.TheVariants as trail
use Rattle.shipment_machine.specs.declared.view.Rows.TheVariants as rows

-- Queries of the book and of the trail: the first row, and the waybill or flight.

abbrev pub first_movement : BookQuery → ℕ → ℕ
first_movement book.All len = 0
first_movement (book.After n) len = min n len
first_movement (book.Last n) len = len - n
first_movement (book.Of w) len = 0
first_movement (book.On f) len = 0

abbrev pub first_line : TrailQuery → ℕ → ℕ
first_line trail.All len = 0
first_line (trail.After n) len = min n len
first_line (trail.Last n) len = len - n
first_line (trail.Of w) len = 0

-- true if a row is of the waybill or the flight, if one is named
abbrev pub is_movement_of : BookQuery → Move → Bool
is_movement_of (book.Of w) m = m.awb == w
is_movement_of (book.On f) m = is_of_flight f m
is_movement_of _ m = true

abbrev pub is_line_of : TrailQuery → ℕ × List ℕ → Bool
is_line_of (trail.Of w) row = row.0 == w
is_line_of _ row = true

abbrev pub if_movement : BookQuery → BookRow → List BookRow
if_movement query row = if is_movement_of query row.movement then row ∷ [] else []

abbrev pub if_line : TrailQuery → TrailRow → List TrailRow
if_line query row = if is_line_of query (row.awb, row.line) then row ∷ [] else []

-- The rows of a flight.

-- a load with the declaration of its waybill
abbrev pub aboard_of : Cargo → Load → FlightLoad
aboard_of s load = record { awb = load.awb; declared = declaration s load.awb; load = load.amount }

-- the flight of a part on this day, and the part
abbrev pub flight_on : InboundPart → ℕ → FlightDate
flight_on f day = record { flight = f.flight; day = day }

abbrev pub part_on : InboundPart → ℕ → Part
part_on f day = record { flight = flight_on f day; airport = f.loaded; number = f.number }

-- the rows for such a part
abbrev pub part_rows_on : Cargo → InboundPart → ℕ → Rows
part_rows_on s f day = rows.Lines (is_some (s.parts (part_on f day))) (map (line_view_of s (flight_on f day)) (lines_for s.here f.lines))
