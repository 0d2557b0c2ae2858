-- A station's state of its cargo, its rows and their numbers.
use Rattle.std.specs.Prelude.{ℕ, Bool, ◌&&◌, ◌==◌, if◌then◌else◌, Option, Some, None, List, [], ◌∷◌, ◌++◌, false, map, length, ◌<◌, ⊤}
use Rattle.shipment_machine.specs.Common.{bytes_eq, Holders, Used, unwrap_or, is_carrier, where_true, AllByRecursion, list_any, FlightDate, Move, Declared, Outbound, Expected, Part, Change, Declare, UseUp, NoteFlight, Expect, NotePart, Trail, Confirm, DeclarationView, WaybillView, FlightView, FlightLoad, LineView, RowsKey, Rows, CargoLine}
use Rattle.shipment_machine.specs.Book.{same_flight_date, has_moves as is_moved, balances_of, built, waybills_on}
use Rattle.shipment_machine.specs.declared.view.RowsKey.TheVariants as key
use Rattle.shipment_machine.specs.declared.view.Rows.TheVariants as rows

-- A station's state of its cargo, and how a row changes it.

-- Maps are functions from a key to the stored value. A waybill's key is its number.
pub record Cargo : Type 0 where
  -- the station's airport
  pub here : List ℕ
  pub holders : Holders
  pub declared : ℕ → Option Declared
  pub book : List Move
  pub flights : FlightDate → Option Outbound
  -- the expectation of a waybill on a flight
  pub expected : FlightDate → ℕ → Option Expected
  -- the telegram of each part of a manifest
  pub parts : Part → Option (List ℕ)
  pub trail : List (ℕ × List ℕ)
  pub outbox : List (List ℕ)
  -- the number of the last confirmed message
  pub confirmed : ℕ

-- an empty station
abbrev pub opening_cargo : List ℕ → Cargo
opening_cargo here = record {
  here = here;
  holders = λ _. None;
  declared = λ _. None;
  book = [];
  flights = λ _. None;
  expected = λ _ _. None;
  parts = λ _. None;
  trail = [];
  outbox = [];
  confirmed = 0;
}

abbrev pub same_part : Part → Part → Bool
same_part a b =
    same_flight_date a.flight b.flight && bytes_eq a.airport b.airport && (a.number == b.number)

-- the state after one row is written; `text` is that of the current telegram
abbrev pub written : List ℕ → Change → Cargo → Cargo
written text (Declare w declared) s =
    record s { declared = λ q. if q == w then Some declared else s.declared q }
written text (UseUp w) s = record s { holders = λ q. if q == w then Some Used else s.holders q }
written text (NoteFlight flight outbound) s =
    record s { flights = λ k. if same_flight_date k flight then Some outbound else s.flights k }
written text (Expect flight w expected) s =
    record s {
      expected = λ k q. if same_flight_date k flight && (q == w) then Some expected
          else s.expected k q;
    }
written text (NotePart part) s =
    record s { parts = λ k. if same_part k part then Some text else s.parts k }
written text (Trail w line) s = record s { trail = s.trail ++ (w, line) ∷ [] }
written text (Confirm upto) s = record s { confirmed = upto }

-- the state after rows are written in order
abbrev pub written_all : List ℕ → List Change → Cargo → Cargo
written_all text [] s = s
written_all text (change ∷ changes) s = written_all text changes (written text change s)

-- A state's rows for a waybill, a flight and a manifest line.

-- the declaration of a declared waybill, or an empty one
abbrev pub undeclared : Declared
undeclared =
    record {
      origin = [];
      destination = [];
      pieces = 0;
      tenths = 0;
      goods = [];
      notified = false;
      since = None;
    }

abbrev pub declaration : Cargo → ℕ → Declared
declaration s w = unwrap_or (s.declared w) undeclared

abbrev pub declaration_view : Cargo → ℕ → DeclarationView
declaration_view s w =
    record { declared = s.declared w; has_moves = is_moved s.book w; holder = s.holders w }

abbrev pub waybill_view : Cargo → ℕ → WaybillView
waybill_view s w = record { declared = s.declared w; balances = balances_of s.book w }

-- the view of a flight for a waybill to be built on it
abbrev pub flight_view : Cargo → ℕ → FlightDate → FlightView
flight_view s w flight = record {
  outbound = s.flights flight;
  waybills = length (waybills_on s.book flight);
  load = built s.book w flight;
}

-- the amounts built on a flight, ascending by waybill
abbrev pub loads_of : Cargo → FlightDate → List FlightLoad
loads_of s flight =
    map (λ w. record { awb = w; declared = declaration s w; load = built s.book w flight })
    (waybills_on s.book flight)

abbrev pub line_view_of : Cargo → FlightDate → CargoLine → LineView
line_view_of s flight c =
    record {
      declared = s.declared c.awb;
      holder = s.holders c.awb;
      expected = s.expected flight c.awb;
    }

abbrev pub rows_of : Cargo → RowsKey → Rows
rows_of s (key.Declaration w) = rows.Declaration (declaration_view s w)
rows_of s (key.Waybill w) = rows.Waybill (waybill_view s w)
rows_of s (key.Manifest w flight) = rows.Manifest (waybill_view s w) (flight_view s w flight)
rows_of s (key.Offload w flight) =
    rows.Offload (s.declared w) (s.flights flight) (built s.book w flight)
rows_of s (key.Departure flight) = rows.Departure (s.flights flight) (loads_of s flight)
rows_of s (key.CheckIn w flight) = rows.CheckIn (waybill_view s w) (s.expected flight w)
rows_of s key.Messages = rows.Messages s.confirmed (length s.outbox)

-- Airlines, by their designators.

-- exactly two upper-case letters or digits, at least one of them a letter
abbrev pub airline_of : List ℕ → Option (List ℕ)
airline_of text = where_true (is_carrier text) text

-- Lists of numbers in ascending order.

-- each number is above those before it
abbrev pub IsAscending : List ℕ → Type 0
IsAscending [] = ⊤
IsAscending (x ∷ xs) = AllByRecursion (λ y. x < y) xs × IsAscending xs

-- true if a number is in a list
abbrev pub is_in : ℕ → List ℕ → Bool
is_in q xs = list_any (λ x. x == q) xs
