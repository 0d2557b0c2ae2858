-- The audit of `moves`: sums, balances and departed flights.
use Rattle.std.specs.Prelude.{◌≡◌, ◌≢◌, ℕ, ℤ, pos, true, false, map, Option, Some, None, List, slice_get, ◌≤◌, neg_ℤ, int_lt, int_le, ◌==◌, Bool, not, ◌&&◌, ◌||◌, if◌then◌else◌, IsTrue, length, ◌+ℤ◌, ◌*ℤ◌, ◌↔◌, [], slice_set}
use Rattle.table_audits.specs.Common.{option_map, int_cmp, nat_cmp, ordering_then, Ordering, Less, IsAscending, AllByRecursion, get, FlightDate, Move, Place, Built, Count, CountKey, Build, BuildKey, Flight, FlightKey, flight_cmp, Sums, build_row, count_in, count_row, unless_nothing, is_designator, flight_key, place_code, is_built, Tally, filter, int_eq, Amount, amount, plus, fits, built, taken_and_found, waybills_on, is_closed, is_outside, IsStocked, IsCovered, Tables, natural, is_set, most_waybills, Waybill, waybill_id, by_number, bytes_eq, FinMap, contains_key, has_key, Stock, StockKey, Expected, ExpectedKey, PartKey, TrailLine, kept_text_cmp, is_waybill_row, is_stock_row, is_flight_row, is_expected_row, is_trail_row, serials, unwrap_or, list_any, departs_with, StaysDeparted, flight_date_of, list_all, entries, IsNoted, IsLawfulMove, move_by, is_move_row, Posting}
use Rattle.shipment_machine.specs.declared.moves.Move as cargo
use Rattle.shipment_machine.specs.Lawful.{is_pair}
use Rattle.station_schema.specs.Tables as table
use Rattle.table_audits.specs.Lawful.{cargo_in}
use Rattle.table_audits.specs.declared.sums.CountPlace.{CountPlace}
use Rattle.table_audits.specs.declared.sums.BuildPlace.{BuildPlace}
use Rattle.table_audits.specs.declared.sums.BookSums.{BookSums}
use Rattle.table_audits.specs.declared.sums.Spot.{Spot}
use Rattle.table_audits.specs.declared.sums.Spot.TheVariants.{Plain, OnFlight}

-- The sums of a book's moves, for each waybill at each place.

-- ---- sums

abbrev pub count_entry : CountPlace × Tally → CountKey × Count
count_entry e = ((e.0.awb, e.0.place), count_row e.1)

abbrev pub count_place_cmp : CountPlace → CountPlace → Ordering
count_place_cmp a b = ordering_then (int_cmp a.awb b.awb) (int_cmp a.place b.place)

abbrev pub build_place_cmp : BuildPlace → BuildPlace → Ordering
build_place_cmp a b = ordering_then (nat_cmp a.flight b.flight) (int_cmp a.awb b.awb)

-- the sum of a waybill at a place that isn't built
abbrev pub count_told : BookSums → CountKey → Option Count
count_told sums (awb, place) = option_map count_row (get count_place_cmp sums.counts (record { awb = awb; place = place }))

-- the sum of a waybill on a flight, by the flight's index in a list
abbrev pub build_told : BookSums → ℕ → ℤ → Option Build
build_told sums flight awb = option_map build_row (get build_place_cmp sums.builds (record { flight = flight; awb = awb }))

-- the row of `build` that is due
abbrev pub build_due : Sums → ℤ → Option FlightDate → Option Build
build_due s (pos w) (Some f) = option_map build_row (unless_nothing (s w (Built f)))
build_due s _ _ = None

abbrev pub AreDistinct : List FlightDate → Type 0
AreDistinct flights = (i j : ℕ) (f : FlightDate) → slice_get flights i ≡ Some f → slice_get flights j ≡ Some f → i ≡ j

-- every sum is listed, and nothing else; no waybill is built on a flight that isn't listed
pub record AreSums (flights : List FlightDate) (sums : BookSums) (s : Sums) : Type 0 where
  pub counts : (q : CountKey) → count_told sums q ≡ count_in s q
  pub builds : (i : ℕ) (awb : ℤ) → build_told sums i awb ≡ build_due s awb (slice_get flights i)
  pub others : (w : ℕ) (f : FlightDate) → ((i : ℕ) → slice_get flights i ≢ Some f)
      → unless_nothing (s w (Built f)) ≡ None

-- ---- moves

-- a place by its code, or a flight by its index in a list
abbrev pub IsSpot : List FlightDate → Spot → Place → Type 0
IsSpot flights (Plain code) p = (is_built p ≡ false) × (code ≡ pos (place_code p))
IsSpot flights (OnFlight i) p = (f : FlightDate) × (p ≡ Built f) × (slice_get flights i ≡ Some f)

pub record IsPosting (flights : List FlightDate) (posting : Posting) (m : Move) : Type 0 where
  pub awb_is : posting.awb ≡ pos m.awb
  pub from_is : IsSpot flights posting.from m.from
  pub to_is : IsSpot flights posting.to m.to
  pub pieces_is : posting.amount.pieces ≡ pos m.pieces
  pub tenths_is : posting.amount.tenths ≡ pos m.tenths

-- ---- rows of `build`

-- the row of a waybill on the flight of a row
abbrev pub build_at : FlightKey × Flight → ℤ → Tally → BuildKey × Build
build_at row awb t = ((row.0.0, (row.0.1, awb)), build_row t)

-- the row of a sum, by the rows of `flight`
abbrev pub build_entry : List (FlightKey × Flight) → BuildPlace × Tally → Option (BuildKey × Build)
build_entry rows e = option_map (λ (row : FlightKey × Flight). build_at row e.0.awb e.1) (slice_get rows e.0.flight)

-- the flights in rows of `flight`, in the order of their keys
pub record AreFlightsOf (flights : List FlightDate) (rows : List (FlightKey × Flight)) : Type 0 where
  pub keys : map flight_key flights ≡ map (λ (row : FlightKey × Flight). row.0) rows
  pub each : AllByRecursion (λ (f : FlightDate). is_designator f.flight ≡ true) flights
  pub rising : IsAscending (λ (f g : FlightDate). flight_cmp (flight_key f) (flight_key g) ≡ Less) flights

-- Lawful balances of a station, and the tests of a book's sums for them.

-- no place of the station gave more than it got, no more was returned than received, what came is
-- within bounds, closed flights are empty, and each flight has at most 500 waybills
pub record AreBalances (t : Tables) : Type 0 where
  pub stocked : (w : ℕ) (p : Place) → is_outside p ≡ false → IsStocked (cargo_in t).book w p
  pub covered : (w : ℕ) → IsCovered (cargo_in t).book w
  pub within : (w : ℕ) → IsTrue (fits (taken_and_found (cargo_in t).book w))
  pub empty : (flight : FlightDate) (w : ℕ) → IsTrue (is_closed ((cargo_in t).flights flight))
      → (built (cargo_in t).book w flight).pieces ≡ 0
  pub room : (flight : FlightDate) → length (waybills_on (cargo_in t).book flight) ≤ most_waybills

-- ---- at a place of the station

-- true if something is left: at least one piece, and at least a tenth a piece
abbrev pub is_left : Tally → Bool
is_left r = int_le (pos 1) r.pieces && int_le r.pieces r.tenths

-- ---- at a place outside

-- true if no more came back than went
abbrev pub is_covered : Tally → Bool
is_covered r = int_le r.pieces (pos 0) && int_le r.tenths (pos 0)

-- by how much more went than came
abbrev pub overdrawn : ℤ → ℕ
overdrawn z = natural (neg_ℤ z)

abbrev pub drawn_by : Option Tally → Amount
drawn_by None = amount 0 0
drawn_by (Some t) = amount (overdrawn t.pieces) (overdrawn t.tenths)

abbrev pub drawn_at : BookSums → ℤ → ℤ → Amount
drawn_at sums awb place = drawn_by (get count_place_cmp sums.counts (record { awb = awb; place = place }))

-- true if what came of a waybill by hand and as surplus is within bounds
abbrev pub is_within : BookSums → ℤ → Bool
is_within sums awb = fits (plus (drawn_at sums awb (pos 0)) (drawn_at sums awb (pos 1)))

-- true if a sum at a place that isn't built is lawful: codes below 2 are outside, and 0 is the one
-- to which pieces are returned
abbrev pub is_lawful_count : BookSums → CountPlace × Tally → Bool
is_lawful_count sums e =
    if int_lt e.0.place (pos 2)
    then is_within sums e.0.awb && (not (int_eq e.0.place (pos 0)) || is_covered e.1)
    else is_left e.1

-- ---- on a flight

-- true if the flight of a row can have cargo
abbrev pub is_open : Option (FlightKey × Flight) → Bool
is_open None = false
is_open (Some row) = not (is_set row.1.closed)

-- the sums on a flight, by the flight's index in a list
abbrev pub on_flight : ℕ → List (BuildPlace × Tally) → List (BuildPlace × Tally)
on_flight i es = filter (λ (e : BuildPlace × Tally). e.0.flight == i) es

-- true if a sum on a flight is lawful, by the rows of `flight`
abbrev pub is_lawful_build : List (FlightKey × Flight) → BuildPlace × Tally → Bool
is_lawful_build rows e = is_left e.1 && is_open (slice_get rows e.0.flight)

-- Rows in the order of their keys, each key once.

abbrev pub RisesByNumber : List Waybill → Type 0
RisesByNumber = IsAscending (λ a b. by_number waybill_id a b ≡ Less)

-- Rows that are lawful by themselves and with the rows of the tables before.

-- in range, and at least a tenth a piece
abbrev pub is_lawful_waybill : Waybill → Bool
is_lawful_waybill row = is_waybill_row row && int_le row.pieces row.tenths

abbrev pub has_waybill : List Waybill → ℤ → Bool
has_waybill = has_key waybill_id

abbrev pub number_at : ℤ → ℤ → ℤ
number_at prefix serial = (prefix *ℤ pos serials) +ℤ serial

-- the lowest and the highest number of a row
abbrev pub lowest : StockKey × Stock → ℤ
lowest row = number_at row.0.0 row.0.1

abbrev pub highest : StockKey × Stock → ℤ
highest row = number_at row.0.0 row.1.high

-- each number from one to the other, inclusive, has a waybill
abbrev pub AreDeclared : List Waybill → ℤ → ℤ → Type 0
AreDeclared waybills first last = (n : ℤ) → IsTrue (int_le first n) → IsTrue (int_le n last) → IsTrue (has_waybill waybills n)

-- in range, and if its numbers are used, each of them is declared
abbrev pub IsLawfulStock : List Waybill → StockKey × Stock → Type 0
IsLawfulStock waybills row = IsTrue (is_stock_row row) × (IsTrue (int_eq row.1.holder (pos 2)) → AreDeclared waybills (lowest row) (highest row))

-- in range, and unloaded elsewhere
abbrev pub is_lawful_flight : List ℕ → FlightKey × Flight → Bool
is_lawful_flight here row = is_flight_row row && not (bytes_eq row.1.unload here)

-- in range, at least a tenth a piece, and of a declared waybill
abbrev pub is_lawful_expected : List Waybill → ExpectedKey × Expected → Bool
is_lawful_expected waybills row = is_expected_row row && int_le row.1.pieces row.1.tenths && has_waybill waybills row.0.1.1

-- in range, and of a declared waybill
abbrev pub is_lawful_line : List Waybill → TrailLine → Bool
is_lawful_line waybills row = is_trail_row row && has_waybill waybills row.awb

-- the telegram of a part is among the accepted texts
abbrev pub has_text : FinMap kept_text_cmp ℤ → PartKey × List ℕ → Bool
has_text texts row = contains_key texts row.1

-- Lawfulness of the rows of `moves` with the waybills and the flights, apart from balances.

-- a flight that no row names
abbrev pub nowhere : FlightDate
nowhere = record { flight = record { carrier = []; number = 0; suffix = None }; day = 0 }

-- the flight in a row of `flight`
abbrev pub flight_in : FlightKey × Flight → FlightDate
flight_in row = unwrap_or (flight_date_of row.0.0 row.0.1) nowhere

-- the flights in rows of `flight`, in order
abbrev pub flights_of : List (FlightKey × Flight) → List FlightDate
flights_of rows = map flight_in rows

-- exactly the departed flights are closed, and nothing is built on them after their departure
pub record AreDepartures (t : Tables) : Type 0 where
  pub closed : (flight : FlightDate)
      → IsTrue (is_closed ((cargo_in t).flights flight)) ↔ IsTrue (list_any (departs_with flight) (cargo_in t).book)
  pub departed : (flight : FlightDate) → StaysDeparted flight (cargo_in t).book

-- between an allowed pair of places, and of a declared waybill
abbrev pub is_fit_move : List Waybill → cargo.Move → Bool
is_fit_move waybills m = is_pair m.from m.to && has_waybill waybills (pos m.awb)

-- The posting of a row of `moves`.

-- the other tables: waybills in the order of their numbers, and flights in range
pub record AreBeside (t : table.Tables) (waybills : List table.Waybill) (flights : List (table.FlightKey × table.Flight)) : Type 0 where
  pub up : RisesByNumber waybills
  pub waybills_are : t.waybills ≡ waybills
  pub within : list_all is_flight_row (entries t.flights) ≡ true
  pub flights_are : entries t.flights ≡ flights

abbrev pub listed_in : table.Tables → List FlightDate
listed_in t = flights_of (entries t.flights)

-- a place for posting; if it is built, its flight is noted
pub record IsSpotOf (t : table.Tables) (place : Place) (spot : Spot) : Type 0 where
  pub spot_is : IsSpot (listed_in t) spot place
  pub noted : IsNoted (cargo_in t) place

abbrev pub IsSpotFound : table.Tables → Place → Option Spot → Type 0
IsSpotFound t place None = IsNoted (cargo_in t) place → ⊥
IsSpotFound t place (Some spot) = IsSpotOf t place spot

-- the posting of a move between two places
abbrev pub posting_in : Move → Spot → Spot → Posting
posting_in m from to = record { awb = pos m.awb; from = from; to = to; amount = record { pieces = pos m.pieces; tenths = pos m.tenths } }

-- a row in range, and a lawful move by itself
pub record IsGoodRow (t : table.Tables) (row : table.Move) : Type 0 where
  pub within : is_move_row row ≡ true
  pub lawful : IsLawfulMove (cargo_in t) (move_by row)

pub record IsPosted (t : table.Tables) (row : table.Move) (posting : Posting) : Type 0 where
  pub good : IsGoodRow t row
  pub posted : IsPosting (listed_in t) posting (move_by row)

abbrev pub IsPostedOr : table.Tables → table.Move → Option Posting → Type 0
IsPostedOr t row None = IsGoodRow t row → ⊥
IsPostedOr t row (Some posting) = IsPosted t row posting

-- Departed flights, by their index in a list of flights.

abbrev pub departs_in : List Move → FlightDate → Bool
departs_in book flight = list_any (departs_with flight) book

abbrev pub marks_of : List FlightDate → List Move → List Bool
marks_of flights book = map (departs_in book) flights

-- true if a place is on a marked flight
abbrev pub is_marked : List Bool → Spot → Bool
is_marked marks (Plain code) = false
is_marked marks (OnFlight i) = unwrap_or (slice_get marks i) false

-- the marks after a move from one place to another
abbrev pub marked : List Bool → Spot → Spot → List Bool
marked marks (OnFlight i) (Plain code) = if int_eq code (pos 4) then slice_set marks i true else marks
marked marks from to = marks

-- the marks of a book in which nothing is built on a departed flight
pub record IsDeparted (flights : List FlightDate) (book : List Move) (marks : List Bool) : Type 0 where
  pub marks_are : marks ≡ marks_of flights book
  pub stays : (flight : FlightDate) → StaysDeparted flight book
