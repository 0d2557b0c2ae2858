-- What the rows of tables say of counts, moves, replies, messages and stock.
use Rattle.std.specs.Prelude.{ℕ, ℤ, pos, ◌==◌, Bool, ◌&&◌, ◌||◌, if◌then◌else◌, is_some, Option, Some, None, List, [], map, length, ◌≡◌, negsuc, int_lt, ◌+◌, ◌-◌, ◌*◌, int_le, true, IsTrue, ◌∷◌, false, ◌+ℤ◌, neg_ℤ, FitsSigned}
use Rattle.row_codec.specs.Common.{option_map, unwrap_or, int_eq, flight_text, FlightDate, Move, Place, Hand, Surplus, Free, Built, Departed, Delivered, Missing, Transferred, book_row, BookRow, most_pieces, most_tenths, FinMap, get, Designator, flight_of, balance, pieces_of, tenths_of, same_place, Count, CountKey, count_cmp, Build, BuildKey, build_cmp, Load, is_utf8, is_key, IsRequest, Kept, kept_cmp, kept_text_cmp, is_line, trail_row, TrailRow, TrailLine, Message, option_and_then, find, list_all, entries, prefix_of, serial_of, serials, is_agent_code, Holders, Holder, StockRun, Stock, StockKey, stock_cmp, is_airport, State, Tables, Station, move_id, trail_id, message_id, book_by, trail_by, BookQuery, TrailQuery, moves_for, lines_for, MoveQuery, LineQuery, w64, Ordering, insert, remove, adjust, View, inside, IsShowing, Tally}
use Rattle.station_schema.specs.Tables as table
use Rattle.station_core.specs.Step as step
use Rattle.agent_stock.specs.declared.stock.Holder.TheVariants as holder
use Rattle.row_codec.specs.Flights.{natural, is_within, is_number, is_day, is_count, AreNumbered, is_flight_text, flight_date_of, flights_in, is_flight_row, declared_in, is_waybill_row, expected_in, is_expected_row, parts_in, is_part_row}

-- The movement book in the rows of `moves`.

abbrev pub place_code : Place → ℕ
place_code Hand = 0
place_code Surplus = 1
place_code Free = 2
place_code (Built _) = 3
place_code Departed = 4
place_code Delivered = 5
place_code Missing = 6
place_code Transferred = 7

-- a place that isn't built, by its code
abbrev pub plain_place : ℤ → Option Place
plain_place code =
    if int_eq code (pos 0) then Some Hand else if int_eq code (pos 1) then Some Surplus else if int_eq code (pos 2) then Some Free
    else if int_eq code (pos 4) then Some Departed else if int_eq code (pos 5) then Some Delivered else if int_eq code (pos 6) then Some Missing
    else if int_eq code (pos 7) then Some Transferred else None

-- the place with a code; a built one is on this flight
abbrev pub place_of : ℤ → Option FlightDate → Option Place
place_of code flight = if int_eq code (pos 3) then option_map Built flight else plain_place code

abbrev pub move_by : table.Move → Move
move_by row = record {
  awb = natural row.awb;
  from = unwrap_or (place_of row.src (flight_date_of row.flight row.fday)) Hand;
  to = unwrap_or (place_of row.dst (flight_date_of row.flight row.fday)) Hand;
  pieces = natural row.pieces;
  tenths = natural row.tenths;
  flight = flight_date_of row.flight row.fday;
  at = record { day = natural row.day; minute = natural row.minute };
}

-- the move in a row with its number, as readers return it
abbrev pub book_row_by : table.Move → BookRow
book_row_by row = book_row (natural row.number) (move_by row)

-- a move without a flight has an empty text, and 0 for its day
abbrev pub flight_column : Option FlightDate → List ℕ
flight_column None = []
flight_column (Some f) = flight_text f.flight

abbrev pub day_column : Option FlightDate → ℤ
day_column None = pos 0
day_column (Some f) = pos f.day

abbrev pub move_row : ℕ → Move → table.Move
move_row n m = record {
  number = pos n;
  awb = pos m.awb;
  src = pos (place_code m.from);
  dst = pos (place_code m.to);
  pieces = pos m.pieces;
  tenths = pos m.tenths;
  flight = flight_column m.flight;
  fday = day_column m.flight;
  day = pos m.at.day;
  minute = pos m.at.minute;
}

abbrev pub book_in : List table.Move → List Move
book_in rows = map move_by rows

-- both flight and day, or neither
abbrev pub are_flight_columns : List ℕ → ℤ → Bool
are_flight_columns text day = ((length text == 0) && int_eq day (pos 0)) || (is_flight_text text && is_day day)

abbrev pub is_move_row : table.Move → Bool
is_move_row row =
    is_number row.awb && is_some (place_of row.src (flight_date_of row.flight row.fday)) && is_some (place_of row.dst (flight_date_of row.flight row.fday))
    && is_within 1 most_pieces row.pieces && is_within 0 most_tenths row.tenths && are_flight_columns row.flight row.fday
    && is_day row.day && is_within 0 1439 row.minute

-- Running counts: the sums of a waybill's moves at each place, in the rows of `counts` and `build`.

-- the balances of a waybill at a place
abbrev pub running : List Move → ℕ → Place → Tally
running book w place = record {
  pieces = balance pieces_of book w (same_place place);
  tenths = balance tenths_of book w (same_place place);
}

-- zero sums have no row
abbrev pub is_nothing : Tally → Bool
is_nothing r = int_eq r.pieces (pos 0) && int_eq r.tenths (pos 0)

abbrev pub unless_nothing : Tally → Option Tally
unless_nothing r = if is_nothing r then None else Some r

abbrev pub running_in : Count → Tally
running_in row = record { pieces = row.pieces; tenths = row.tenths }

abbrev pub running_on : Build → Tally
running_on row = record { pieces = row.pieces; tenths = row.tenths }

abbrev pub count_row : Tally → Count
count_row r = record { pieces = r.pieces; tenths = r.tenths }

abbrev pub build_row : Tally → Build
build_row r = record { pieces = r.pieces; tenths = r.tenths }

-- sums of each waybill at each place
abbrev pub Sums : Type 0
Sums = ℕ → Place → Tally

-- the row of the sum of a waybill at the place with a code, if that isn't built
abbrev pub count_here : Sums → ℕ → Option Place → Option Count
count_here sums w None = None
count_here sums w (Some place) = option_map count_row (unless_nothing (sums w place))

abbrev pub count_in : Sums → CountKey → Option Count
count_in sums (pos w, code) = count_here sums w (plain_place code)
count_in sums (negsuc _, code) = None

-- the row of the sum of a waybill on a flight, by the flight's written form and its day
abbrev pub build_here : Sums → ℕ → ℕ → Option Designator → Option Build
build_here sums day w None = None
build_here sums day w (Some f) = option_map build_row (unless_nothing (sums w (Built (record { flight = f; day = day }))))

abbrev pub written_flight : List ℕ → Option Designator
written_flight text = if is_flight_text text then flight_of text else None

abbrev pub build_in : Sums → BuildKey → Option Build
build_in sums (text, (pos day, pos w)) = build_here sums day w (written_flight text)
build_in sums _ = None

-- the rows are exactly the book's balances
abbrev pub AreCounts : FinMap count_cmp Count → List Move → Type 0
AreCounts counts book = (key : CountKey) → get counts key ≡ count_in (running book) key

abbrev pub AreBuilds : FinMap build_cmp Build → List Move → Type 0
AreBuilds builds book = (key : BuildKey) → get builds key ≡ build_in (running book) key

-- What the rows of a flight say.

-- a waybill and its amount
abbrev pub load_said : Load → ℤ × Tally
load_said load = (pos load.awb, record { pieces = pos load.amount.pieces; tenths = pos load.amount.tenths })

abbrev pub row_said : BuildKey × Build → ℤ × Tally
row_said e = (e.0.1.1, running_on e.1)

-- whether there are pieces of it
abbrev pub is_loaded : ℤ × Tally → Bool
is_loaded s = int_lt (pos 0) s.1.pieces

-- Accepted inputs in the rows of `kept_key` and `kept_text`.

-- the entry under a key
abbrev pub kept_by : Kept → step.Kept
kept_by row = record { request = row.command; count = natural row.count }

abbrev pub kept_keys_in : FinMap kept_cmp Kept → List ℕ → Option step.Kept
kept_keys_in rows key = option_map kept_by (get rows key)

-- in range, and the command is a text
abbrev pub is_kept_row : List ℕ × Kept → Bool
is_kept_row row = is_key row.0 && is_utf8 row.1.command && is_count row.1.count

-- each key has the text of a command
abbrev pub AreRequests : FinMap kept_cmp Kept → Type 0
AreRequests rows = (key : List ℕ) (row : Kept) → get rows key ≡ Some row → IsRequest row.command

abbrev pub kept_texts_in : FinMap kept_text_cmp ℤ → List ℕ → Option ℕ
kept_texts_in rows text = option_map natural (get rows text)

-- a text, and a count in range
abbrev pub is_kept_text_row : List ℕ × ℤ → Bool
is_kept_text_row row = is_utf8 row.0 && is_count row.1

-- The lines of status messages and the messages sent, by the rows of `trail` and `outbox`.

abbrev pub line_by : TrailLine → ℕ × List ℕ
line_by row = (natural row.awb, row.line)

-- a trail line with its number, as readers return it
abbrev pub trail_row_by : TrailLine → TrailRow
trail_row_by row = trail_row (natural row.number) (line_by row)

abbrev pub line_row : ℕ → ℕ → List ℕ → TrailLine
line_row n w line = record { number = pos n; awb = pos w; line = line }

abbrev pub trail_in : List TrailLine → List (ℕ × List ℕ)
trail_in rows = map line_by rows

abbrev pub is_trail_row : TrailLine → Bool
is_trail_row row = is_number row.awb && is_line row.line

abbrev pub message_row : ℕ → List ℕ → Message
message_row n text = record { number = pos n; body = text }

abbrev pub is_message_row : Message → Bool
is_message_row row = is_utf8 row.body

abbrev pub outbox_in : List Message → List (List ℕ)
outbox_in rows = map (λ (row : Message). row.body) rows

-- Holders of numbers in the rows of `stock`.

-- 0 is the desk, 2 used, 3 void
abbrev pub unnamed_holder : ℤ → Option Holder
unnamed_holder n = if int_eq n (pos 0) then Some holder.Desk else if int_eq n (pos 2) then Some holder.Used else if int_eq n (pos 3) then Some holder.Void else None

-- the holder in a row: 1 is an agent, whose code is in the row
abbrev pub holder_by : Stock → Option Holder
holder_by s = if int_eq s.holder (pos 1) then (if is_agent_code s.agent then Some (holder.Agent s.agent) else None)
    else if length s.agent == 0 then unnamed_holder s.holder else None

abbrev pub named : Option Holder → Holder
named (Some holder) = holder
named None = holder.Desk

abbrev pub run_in : StockKey × Stock → StockRun
run_in e = record {
  first = natural e.0.0 * serials + natural e.0.1;
  count = natural e.1.high + 1 - natural e.0.1;
  holder = named (holder_by e.1);
}

-- a row covers each of its serials
abbrev pub stands_for : ℕ → StockKey × Stock → Bool
stands_for n row = int_eq row.0.0 (pos (prefix_of n)) && (int_le row.0.1 (pos (serial_of n)) && int_le (pos (serial_of n)) row.1.high)

abbrev pub holders_in : FinMap stock_cmp Stock → Holders
holders_in stock n = option_and_then (λ row. holder_by row.1) (find (stands_for n) (entries stock))

-- at least one number of a prefix, with a holder
abbrev pub is_stock_row : StockKey × Stock → Bool
is_stock_row row =
    is_within 0 999 row.0.0 && is_within 0 (serials - 1) row.0.1 && int_le row.0.1 row.1.high && int_le row.1.high (pos (serials - 1)) && is_some (holder_by row.1)

-- a row begins after the one before it ends
abbrev pub is_behind : StockKey × Stock → StockKey × Stock → Bool
is_behind row next = int_lt row.0.0 next.0.0 || (int_eq row.0.0 next.0.0 && int_lt row.1.high next.0.1)

abbrev pub are_apart : List (StockKey × Stock) → Bool
are_apart [] = true
are_apart (row ∷ []) = true
are_apart (row ∷ next ∷ rows) = is_behind row next && are_apart (next ∷ rows)

-- each row is in range, and no two have a number in common
pub record AreStockRows (stock : FinMap stock_cmp Stock) : Type 0 where
  pub rows : IsTrue (list_all is_stock_row (entries stock))
  pub apart : IsTrue (are_apart (entries stock))

-- The state in the tables of a station.

-- the station's own row

abbrev pub airport_in : List Station → List ℕ
airport_in [] = []
airport_in (row ∷ rows) = row.airport

abbrev pub confirmed_in : List Station → ℕ
confirmed_in [] = 0
confirmed_in (row ∷ rows) = natural row.confirmed

-- one row, of version 2
abbrev pub is_station : List Station → Bool
is_station [] = false
is_station (row ∷ []) = int_eq row.id (pos 1) && is_airport row.airport && int_eq row.version (pos 2) && is_count row.confirmed
is_station (row ∷ other ∷ rows) = false

abbrev pub meaning_of : Tables → State
meaning_of t = record {
  cargo = record {
    here = airport_in t.stations;
    holders = holders_in t.stock;
    declared = declared_in t.waybills;
    book = book_in t.moves;
    flights = flights_in t.flights;
    expected = expected_in t.expected;
    parts = parts_in t.parts;
    trail = trail_in t.trail;
    outbox = outbox_in t.outbox;
    confirmed = confirmed_in t.stations;
  };
  kept_keys = kept_keys_in t.kept;
  kept_texts = kept_texts_in t.kept_texts;
}

-- Every value is in range, `waybill` is empty, no number is in two rows of the stock, numbered rows
-- are numbered from 1, the entry of each key is a command, and the running counts are the book's
-- sums.
pub record IsReadable (t : Tables) : Type 0 where
  pub station : IsTrue (is_station t.stations)
  pub old : t.old_waybills ≡ []
  pub waybills : IsTrue (list_all is_waybill_row t.waybills)
  pub stock : AreStockRows t.stock
  pub flights : IsTrue (list_all is_flight_row (entries t.flights))
  pub moves : IsTrue (list_all is_move_row t.moves)
  pub book : AreNumbered move_id t.moves
  pub expected : IsTrue (list_all is_expected_row (entries t.expected))
  pub parts : IsTrue (list_all is_part_row (entries t.parts))
  pub trail : IsTrue (list_all is_trail_row t.trail)
  pub lines : AreNumbered trail_id t.trail
  pub messages : IsTrue (list_all is_message_row t.outbox)
  pub outbox : AreNumbered message_id t.outbox
  pub kept : IsTrue (list_all is_kept_row (entries t.kept))
  pub requests : AreRequests t.kept
  pub kept_texts : IsTrue (list_all is_kept_text_row (entries t.kept_texts))
  pub counts : AreCounts t.counts (book_in t.moves)
  pub builds : AreBuilds t.builds (book_in t.moves)

abbrev pub Means : Tables → Option State → Type 0
Means t (Some s) = IsReadable t × (meaning_of t ≡ s)
Means t None = ¬ IsReadable t

-- Queries of tables for queries of a station.

-- In tables with `count` moves, the queried rows are the queried movements.
abbrev pub AsksMoves : BookQuery → ℕ → MoveQuery → Type 0
AsksMoves query count asked = (t : Tables) (s : State) → Means t (Some s) → length s.cargo.book ≡ count
    → map book_row_by (moves_for asked t.moves) ≡ book_by query s.cargo

-- In tables with `count` lines, the queried rows are the queried lines.
abbrev pub AsksLines : TrailQuery → ℕ → LineQuery → Type 0
AsksLines query count asked = (t : Tables) (s : State) → Means t (Some s) → length s.cargo.trail ≡ count
    → map trail_row_by (lines_for asked t.trail) ≡ trail_by query s.cargo

-- Sums of each waybill at each place, and what moves make of them.

-- two amounts together
abbrev pub plus : Tally → Tally → Tally
plus a b = record { pieces = a.pieces +ℤ b.pieces; tenths = a.tenths +ℤ b.tenths }

-- an amount with the other sign
abbrev pub negated : Tally → Tally
negated t = record { pieces = neg_ℤ t.pieces; tenths = neg_ℤ t.tenths }

-- an amount whose numbers fit into 64 bits
abbrev pub IsTally : Tally → Type 0
IsTally t = FitsSigned w64 t.pieces × FitsSigned w64 t.tenths

-- an amount more of a waybill at a place
abbrev pub posting : ℕ → Place → Tally → Sums → Sums
posting awb place by sums w p = if (awb == w) && same_place p place then plus (sums w p) by else sums w p

-- what a move brings, and what it takes
abbrev pub come : Move → Tally
come m = record { pieces = pos m.pieces; tenths = pos m.tenths }

abbrev pub gone : Move → Tally
gone m = negated (come m)

-- whether a place is on a flight
abbrev pub is_built : Place → Bool
is_built (Built f) = true
is_built _ = false

-- A row that is written, or removed where nothing is left.

-- a value at a key that has one or none, or no value where it is nothing
abbrev pub stored : {K V : Type 0} {R : K → K → Ordering} → FinMap R V → Bool → Bool → K → V
    → FinMap R V
stored m nothing there key v = if nothing then remove m key else (if there then adjust m key (λ _. v) else insert m key v)

-- what a row comes to by an amount more
abbrev pub come_to : {V : Type 0} → (V → Tally) → Option V → Tally → Tally
come_to amount None by = by
come_to amount (Some v) by = plus (amount v) by

-- the pieces of what was found, and none where there is no row
abbrev pub pieces_found : Option Tally → ℤ
pieces_found None = pos 0
pieces_found (Some r) = r.pieces

-- what a waybill has at a place, where it is known whether there is a row
abbrev pub storing_count : Bool → CountKey × Count → Tables → Tables
storing_count there e tables = record tables { counts = stored tables.counts (is_nothing (running_in e.1)) there e.0 e.1 }

-- an amount more in the row of a key, which is there if it isn't nothing
abbrev pub posting_count : CountKey → Tally → Tables → Tables
posting_count key by tables = storing_count (is_some (get tables.counts key)) (key, count_row (come_to running_in (get tables.counts key) by)) tables

-- what a flight carries of a waybill, in the same way
abbrev pub storing_build : Bool → BuildKey × Build → Tables → Tables
storing_build there e tables = record tables { builds = stored tables.builds (is_nothing (running_on e.1)) there e.0 e.1 }

abbrev pub posting_build : BuildKey → Tally → Tables → Tables
posting_build key by tables = storing_build (is_some (get tables.builds key)) (key, build_row (come_to running_on (get tables.builds key) by)) tables

-- Tables whose running counts have moved on.

-- in a transaction a store shows these tables, but with running counts that are these sums
pub record Keeps (v : View) (before now : Tables) (sums : Sums) : Type 0 where
  pub counts : FinMap count_cmp Count
  pub builds : FinMap build_cmp Build
  pub shows : IsShowing v (inside before (record now { counts = counts; builds = builds }))
  pub are_counts : (key : CountKey) → get counts key ≡ count_in sums key
  pub are_builds : (key : BuildKey) → get builds key ≡ build_in sums key

-- the same, with running counts that are a book's
abbrev pub Posted : View → Tables → Tables → List Move → Type 0
Posted v before now book = Keeps v before now (running book)

-- so many pieces of a move's waybill were at the place that it comes to, by the book before it,
-- where it doesn't leave the same place
abbrev pub WereThere : List Move → Move → ℤ → Type 0
WereThere book m were =
    same_place m.to m.from ≡ false → were ≡ balance pieces_of book m.awb (same_place m.to)
