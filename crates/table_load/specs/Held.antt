-- A table of a station in a database of any schema.
use Rattle.std.specs.Prelude.{◌==◌, ℕ, zero, suc, List, [], ◌∷◌, map, take, slice_get, Option, Some, None, option_map, option_and_then, if◌then◌else◌, false, ℤ, pos, codes, Bool, is_some, ◌&&◌, string_bytes, ◌≡◌, ◌≢◌, IsTrue, Vec, Result, true, ◌++◌, Ok, Err}
use Rattle.table_load.specs.Common.{IsSorted, Ordering, Binary, collation_code, Key, Row, column, key_cmp, Trees, Table, Schema, Database, table_named, column_named, place_of, int_eq, is_utf8, Value, Int, Text, Station, AllByRecursion, IsPermutation, Less, Global, IsAscending, Error, HasCleanDisk, Held, state, Ghosts, Reads, int_cmp, int_of, bytes_of, OldWaybill, old_waybill_id, Waybill, waybill_id, Stock, StockKey, stock_cmp, stock_row, Flight, FlightKey, flight_cmp, flight_row, Move, move_id, Expected, ExpectedKey, expected_cmp, expected_row, PartKey, part_cmp, part_row, TrailLine, trail_id, Message, message_id, Kept, kept_cmp, kept_row, kept_text_cmp, kept_text_row, Count, CountKey, count_cmp, count_row, Build, BuildKey, build_cmp, build_row, waybill_shown, move_shown, trail_shown, message_shown, undated, WaybillRow, is_lt, IsPlain, understood, State, IsUnchanged, Compiled, Stops}
use Rattle.sqlite.specs.State.{Shown}
use Rattle.table_load.specs.declared.station.FileVersion.{FileVersion}
use Rattle.table_load.specs.declared.station.FileVersion.TheVariants.{First, Second}
use Rattle.table_load.specs.declared.station.StationFound.{StationFound}
use Rattle.table_load.specs.declared.station.StationFound.TheVariants.{NoStation, Damaged, OtherVersion, OneRow}
use Rattle.table_load.specs.declared.old_waybill.OldWaybillEntry.{OldWaybillEntry}
use Rattle.table_load.specs.declared.flight.FlightEntry.{FlightEntry}
use Rattle.table_load.specs.declared.expected.ExpectedEntry.{ExpectedEntry}
use Rattle.table_load.specs.declared.part.PartEntry.{PartEntry}
use Rattle.table_load.specs.declared.kept_key.KeptKeyEntry.{KeptKeyEntry}
use Rattle.table_load.specs.declared.kept_text.KeptTextEntry.{KeptTextEntry}
use Rattle.table_load.specs.declared.walk.Walk.{Walk}

-- The rows of a table of any database, found by the names of the table and of its columns, like SQL
-- does.

abbrev pub table_by_name : Schema → List ℕ → Option Table
table_by_name schema name = option_and_then (slice_get schema.tables) (table_named schema name)

-- the index of a column's value in a row: the rowid is at 0
abbrev pub place_by_name : Table → List ℕ → Option ℕ
place_by_name table name =
    option_and_then (λ at. option_and_then (λ c. if collation_code c.collation == 0 then Some (place_of table at) else None) (slice_get table.columns at)) (column_named table name)

-- the indexes of these columns, if the table has each of them, with the collation BINARY
abbrev pub places_by_name : Table → List (List ℕ) → Option (List ℕ)
places_by_name table [] = Some []
places_by_name table (name ∷ names) = option_and_then (λ place. option_map (λ places. place ∷ places) (places_by_name table names)) (place_by_name table name)

-- the table found under a name
pub data Found : Type 0 where
  no_table : Found
  no_column : Found
  -- the values of the columns, for each row
  rows_of : List Row → Found

abbrev pub found_in : Trees → Table → Option (List ℕ) → Found
found_in trees table None = no_column
found_in trees table (Some places) = rows_of (map (λ r. map (column r) places) (trees table.tree))

abbrev pub found_at : Trees → List (List ℕ) → Option Table → Found
found_at trees names None = no_table
found_at trees names (Some table) = found_in trees table (places_by_name table names)

abbrev pub found : Database → List ℕ → List (List ℕ) → Found
found db name names = found_at db.trees names (table_by_name db.schema name)

-- `n` columns, each ascending in the order of SQLite's values
abbrev pub rising_keys : ℕ → List Key
rising_keys zero = []
rising_keys (suc n) = record { collation = Binary; descending = false } ∷ rising_keys n

-- the order of two rows by the first `n` columns
abbrev pub key_order : ℕ → Row → Row → Ordering
key_order n a b = key_cmp 0 (rising_keys n) (take n a) (take n b)

-- the rows in the order of their first columns
abbrev pub AreInOrder : ℕ → List Row → Type 0
AreInOrder n = IsSorted (key_order n)

-- The content of the table `station` in a database of any schema.

abbrev pub station_name : List ℕ
station_name = codes "station"

abbrev pub station_columns : List (List ℕ)
station_columns = codes "id" ∷ codes "airport" ∷ codes "version" ∷ codes "confirmed" ∷ []

abbrev pub has_table : Schema → List ℕ → Bool
has_table schema name = is_some (table_by_name schema name)

pub data Verdict : Type 0 where
  no_station : Verdict
  damaged : Verdict
  other_version : ℤ → Verdict
  -- the airport, and the number of the last confirmed message
  one_row : List ℕ → ℤ → Verdict

abbrev pub version_number : FileVersion → ℤ
version_number First = pos 1
version_number Second = pos 2

-- the values, once the version is the expected one
abbrev pub typed_station : Value → Value → Value → Verdict
typed_station (Int id) (Text airport) (Int confirmed) = if int_eq id (pos 1) && is_utf8 airport then one_row airport confirmed else damaged
typed_station _ _ _ = damaged

abbrev pub by_version : FileVersion → Value → Verdict → Verdict
by_version wanted (Int version) other = if int_eq version (version_number wanted) then other else other_version version
by_version wanted _ other = damaged

abbrev pub found_in_row : FileVersion → Row → Verdict
found_in_row wanted (id ∷ airport ∷ version ∷ confirmed ∷ []) = by_version wanted version (typed_station id airport confirmed)
found_in_row wanted _ = damaged

abbrev pub found_in_rows : FileVersion → List Row → Verdict
found_in_rows wanted [] = no_station
found_in_rows wanted (row ∷ []) = found_in_row wanted row
found_in_rows wanted (row ∷ other ∷ more) = damaged

-- tested in this order: no table or no row, a missing column or a second row, the version, the
-- other values
abbrev pub station_found : FileVersion → Found → Verdict
station_found wanted no_table = no_station
station_found wanted no_column = damaged
station_found wanted (rows_of rows) = found_in_rows wanted rows

abbrev pub station_of : FileVersion → Database → Verdict
station_of wanted db = station_found wanted (found db station_name station_columns)

abbrev pub found_meant : StationFound → Verdict
found_meant NoStation = no_station
found_meant Damaged = damaged
found_meant (OtherVersion n) = other_version n
found_meant (OneRow airport confirmed) = one_row (string_bytes airport) confirmed

-- a row of `station` with id 1 and this version
abbrev pub row_of_version : FileVersion → List ℕ → ℤ → Station
row_of_version version airport confirmed =
    record { id = pos 1; airport = airport; version = version_number version; confirmed = confirmed }

abbrev pub new_row : List ℕ → ℤ → Station
new_row = row_of_version Second

-- A table of any database as entries in the order of their keys, and the results of calls.

-- ---- the schema

abbrev pub is_whole_in : List (List ℕ) → Option Table → Bool
is_whole_in names None = false
is_whole_in names (Some table) = is_some (places_by_name table names)

abbrev pub is_whole : Schema → List ℕ → List (List ℕ) → Bool
is_whole schema name names = is_whole_in names (table_by_name schema name)

-- ---- entries

-- each key occurs once, in ascending order, and each entry is lawful by itself
pub record AreLawful {E : Type 0} (cmp : E → E → Ordering) (IsLawful : E → Type 0) (entries : List E) : Type 0 where
  pub rising : IsAscending (λ a b. cmp a b ≡ Less) entries
  pub each : AllByRecursion IsLawful entries

-- the table of the database is those entries, in some order
pub record HoldsTable {E : Type 0} (db : Database) (name : List ℕ) (columns : List (List ℕ)) (to_row : E → Row) (Are : List E → Type 0) (entries : List E) : Type 0 where
  pub are : Are entries
  pub rows : List Row
  pub found_is : found db name columns ≡ rows_of rows
  pub same : IsPermutation (map to_row entries) rows

pub record AreRowsOf {E : Type 0} (to_row : E → Row) (Are : List E → Type 0) (rows : List Row) (entries : List E) : Type 0 where
  pub are : Are entries
  pub is : rows ≡ map to_row entries

-- the SQL order of the rows by their first columns is the order of the entries
abbrev pub Agrees : {E : Type 0} → ℕ → (E → Row) → (E → E → Ordering) → Type 0
Agrees {E} n to_row cmp = (a b : E) → key_order n (to_row a) (to_row b) ≡ cmp a b

-- ---- results of a call

-- the rows of the table ordered by their first columns, None if the table or a column is missing
abbrev pub ShowsWhole : Found → ℕ → Option (Vec Row Global) → Type 0
ShowsWhole at_hand n None = (raw : List Row) → at_hand ≢ rows_of raw
ShowsWhole at_hand n (Some rows) = (raw : List Row) × (at_hand ≡ rows_of raw) × IsPermutation raw rows.items × AreInOrder n rows.items

-- the entries that are held, None if there are none
abbrev pub TellsTable : {X E : Type 0} → (X → E) → (List E → Type 0) → Option (Vec X Global) → Type 0
TellsTable {X} {E} meant Holds None = (entries : List E) → ¬ Holds entries
TellsTable {X} {E} meant Holds (Some rows) = Holds (map meant rows.items)

-- a call that reads a table: the returned entries are those that the database holds, and nothing
-- changes
abbrev pub FindsTable : {S X E : Type 0} → Ghosts S → Held S → Held S → Result (Option (Vec X Global)) Error → (X → E) → (Database → List E → Type 0) → Type 0
FindsTable g old new result meant Holds =
    HasCleanDisk (state g new) → IsTrue (state g old).is_open → Reads (state g old) (state g new) result (TellsTable meant (Holds (state g old).now))

-- A table of a station in a database of any schema, and its entries.

-- For each table: its name, its columns with the key first, and its entries in the order of their
-- keys.

abbrev pub by_key : {K V : Type 0} → (K → K → Ordering) → K × V → K × V → Ordering
by_key R a b = R a.0 b.0

abbrev pub by_number : {X : Type 0} → (X → ℤ) → X → X → Ordering
by_number id a b = int_cmp (id a) (id b)

abbrev pub IsText : List ℕ → Type 0
IsText t = is_utf8 t ≡ true

-- ---- waybill: those of a file of version 1

abbrev pub old_waybill_name : List ℕ
old_waybill_name = codes "waybill"

abbrev pub old_waybill_columns : List (List ℕ)
old_waybill_columns = codes "awb" ∷ codes "origin" ∷ codes "destination" ∷ codes "pieces"
    ∷ codes "tenths" ∷ codes "goods" ∷ codes "notified" ∷ []

abbrev pub old_waybill_shown : OldWaybill → Row
old_waybill_shown w = Int w.awb ∷ Text w.origin ∷ Text w.destination ∷ Int w.pieces ∷ Int w.tenths
    ∷ Text w.goods ∷ Int w.notified ∷ []

abbrev pub HasOldWaybillTexts : OldWaybill → Type 0
HasOldWaybillTexts e = IsText e.origin × IsText e.destination × IsText e.goods

abbrev pub HoldsOldWaybill : Database → List OldWaybill → Type 0
HoldsOldWaybill db = HoldsTable db old_waybill_name old_waybill_columns old_waybill_shown
    (AreLawful (by_number old_waybill_id) HasOldWaybillTexts)

abbrev pub old_waybill_entry : OldWaybillEntry → OldWaybill
old_waybill_entry row = record {
  awb = row.awb;
  origin = string_bytes row.origin;
  destination = string_bytes row.destination;
  pieces = row.pieces;
  tenths = row.tenths;
  goods = string_bytes row.goods;
  notified = row.notified;
}

-- an entry from the values of its columns
abbrev pub old_waybill_back : Row → OldWaybill
old_waybill_back r = record {
  awb = int_of (column r 0);
  origin = bytes_of (column r 1);
  destination = bytes_of (column r 2);
  pieces = int_of (column r 3);
  tenths = int_of (column r 4);
  goods = bytes_of (column r 5);
  notified = int_of (column r 6);
}

-- ---- waybill2

abbrev pub waybill_name : List ℕ
waybill_name = codes "waybill2"

abbrev pub waybill_columns : List (List ℕ)
waybill_columns = codes "awb" ∷ codes "origin" ∷ codes "destination" ∷ codes "pieces"
    ∷ codes "tenths" ∷ codes "goods" ∷ codes "notified" ∷ codes "since" ∷ []

abbrev pub HasWaybillTexts : Waybill → Type 0
HasWaybillTexts e = IsText e.origin × IsText e.destination × IsText e.goods

abbrev pub HoldsWaybill : Database → List Waybill → Type 0
HoldsWaybill db = HoldsTable db waybill_name waybill_columns waybill_shown
    (AreLawful (by_number waybill_id) HasWaybillTexts)

-- ---- stock

abbrev pub stock_name : List ℕ
stock_name = codes "stock"

abbrev pub stock_columns : List (List ℕ)
stock_columns = codes "prefix" ∷ codes "low" ∷ codes "high" ∷ codes "holder" ∷ codes "agent"
    ∷ []

abbrev pub HasStockTexts : StockKey × Stock → Type 0
HasStockTexts e = IsText e.1.agent

abbrev pub HoldsStock : Database → List (StockKey × Stock) → Type 0
HoldsStock db = HoldsTable db stock_name stock_columns stock_row
    (AreLawful (by_key stock_cmp) HasStockTexts)

-- ---- flight

abbrev pub flight_name : List ℕ
flight_name = codes "flight"

abbrev pub flight_columns : List (List ℕ)
flight_columns = codes "flight" ∷ codes "day" ∷ codes "unload" ∷ codes "closed" ∷ []

abbrev pub HasFlightTexts : FlightKey × Flight → Type 0
HasFlightTexts e = IsText e.0.0 × IsText e.1.unload

abbrev pub HoldsFlight : Database → List (FlightKey × Flight) → Type 0
HoldsFlight db = HoldsTable db flight_name flight_columns flight_row
    (AreLawful (by_key flight_cmp) HasFlightTexts)

abbrev pub flight_entry : FlightEntry → FlightKey × Flight
flight_entry row = ((string_bytes row.flight, row.day), record { unload = string_bytes row.unload; closed = row.closed })

abbrev pub flight_back : Row → FlightKey × Flight
flight_back r = (
  (bytes_of (column r 0), int_of (column r 1)),
  record { unload = bytes_of (column r 2); closed = int_of (column r 3) },
)

-- ---- moves

abbrev pub moves_name : List ℕ
moves_name = codes "moves"

abbrev pub moves_columns : List (List ℕ)
moves_columns = codes "number" ∷ codes "awb" ∷ codes "src" ∷ codes "dst" ∷ codes "pieces"
    ∷ codes "tenths" ∷ codes "flight" ∷ codes "fday" ∷ codes "day" ∷ codes "minute" ∷ []

abbrev pub HasMovesTexts : Move → Type 0
HasMovesTexts e = IsText e.flight

abbrev pub HoldsMoves : Database → List Move → Type 0
HoldsMoves db = HoldsTable db moves_name moves_columns move_shown
    (AreLawful (by_number move_id) HasMovesTexts)

-- ---- expected

abbrev pub expected_name : List ℕ
expected_name = codes "expected"

abbrev pub expected_columns : List (List ℕ)
expected_columns = codes "flight" ∷ codes "day" ∷ codes "awb" ∷ codes "pieces" ∷ codes "tenths"
    ∷ codes "checked" ∷ []

abbrev pub HasExpectedTexts : ExpectedKey × Expected → Type 0
HasExpectedTexts e = IsText e.0.0

abbrev pub HoldsExpected : Database → List (ExpectedKey × Expected) → Type 0
HoldsExpected db = HoldsTable db expected_name expected_columns expected_row
    (AreLawful (by_key expected_cmp) HasExpectedTexts)

abbrev pub expected_entry : ExpectedEntry → ExpectedKey × Expected
expected_entry row = (
  (string_bytes row.flight, (row.day, row.awb)),
  record { pieces = row.pieces; tenths = row.tenths; checked = row.checked },
)

abbrev pub expected_back : Row → ExpectedKey × Expected
expected_back r = (
  (bytes_of (column r 0), (int_of (column r 1), int_of (column r 2))),
  record { pieces = int_of (column r 3); tenths = int_of (column r 4); checked = int_of (column r 5) },
)

-- ---- part

abbrev pub part_name : List ℕ
part_name = codes "part"

abbrev pub part_columns : List (List ℕ)
part_columns = codes "flight" ∷ codes "day" ∷ codes "airport" ∷ codes "seq" ∷ codes "body" ∷ []

abbrev pub HasPartTexts : PartKey × List ℕ → Type 0
HasPartTexts e = IsText e.0.0 × IsText e.0.1.1.0 × IsText e.1

abbrev pub HoldsPart : Database → List (PartKey × List ℕ) → Type 0
HoldsPart db = HoldsTable db part_name part_columns part_row
    (AreLawful (by_key part_cmp) HasPartTexts)

abbrev pub part_entry : PartEntry → PartKey × List ℕ
part_entry row = ((string_bytes row.flight, (row.day, (string_bytes row.airport, row.seq))), string_bytes row.body)

abbrev pub part_back : Row → PartKey × List ℕ
part_back r = ((bytes_of (column r 0), (int_of (column r 1), (bytes_of (column r 2), int_of (column r 3)))), bytes_of (column r 4))

-- ---- trail

abbrev pub trail_name : List ℕ
trail_name = codes "trail"

abbrev pub trail_columns : List (List ℕ)
trail_columns = codes "number" ∷ codes "awb" ∷ codes "line" ∷ []

abbrev pub HasTrailTexts : TrailLine → Type 0
HasTrailTexts e = IsText e.line

abbrev pub HoldsTrail : Database → List TrailLine → Type 0
HoldsTrail db = HoldsTable db trail_name trail_columns trail_shown
    (AreLawful (by_number trail_id) HasTrailTexts)

-- ---- outbox

abbrev pub outbox_name : List ℕ
outbox_name = codes "outbox"

abbrev pub outbox_columns : List (List ℕ)
outbox_columns = codes "number" ∷ codes "body" ∷ []

abbrev pub HasOutboxTexts : Message → Type 0
HasOutboxTexts e = IsText e.body

abbrev pub HoldsOutbox : Database → List Message → Type 0
HoldsOutbox db = HoldsTable db outbox_name outbox_columns message_shown
    (AreLawful (by_number message_id) HasOutboxTexts)

-- ---- kept_key

abbrev pub kept_key_name : List ℕ
kept_key_name = codes "kept_key"

abbrev pub kept_key_columns : List (List ℕ)
kept_key_columns = codes "id" ∷ codes "command" ∷ codes "count" ∷ []

abbrev pub HasKeptKeyTexts : List ℕ × Kept → Type 0
HasKeptKeyTexts e = IsText e.0 × IsText e.1.command

abbrev pub HoldsKeptKey : Database → List (List ℕ × Kept) → Type 0
HoldsKeptKey db = HoldsTable db kept_key_name kept_key_columns kept_row
    (AreLawful (by_key kept_cmp) HasKeptKeyTexts)

abbrev pub kept_key_entry : KeptKeyEntry → List ℕ × Kept
kept_key_entry row = (string_bytes row.id, record { command = string_bytes row.command; count = row.count })

abbrev pub kept_key_back : Row → List ℕ × Kept
kept_key_back r = (bytes_of (column r 0), record { command = bytes_of (column r 1); count = int_of (column r 2) })

-- ---- kept_text

abbrev pub kept_text_name : List ℕ
kept_text_name = codes "kept_text"

abbrev pub kept_text_columns : List (List ℕ)
kept_text_columns = codes "body" ∷ codes "count" ∷ []

abbrev pub HasKeptTextTexts : List ℕ × ℤ → Type 0
HasKeptTextTexts e = IsText e.0

abbrev pub HoldsKeptText : Database → List (List ℕ × ℤ) → Type 0
HoldsKeptText db = HoldsTable db kept_text_name kept_text_columns kept_text_row
    (AreLawful (by_key kept_text_cmp) HasKeptTextTexts)

abbrev pub kept_text_entry : KeptTextEntry → List ℕ × ℤ
kept_text_entry row = (string_bytes row.body, row.count)

abbrev pub kept_text_back : Row → List ℕ × ℤ
kept_text_back r = (bytes_of (column r 0), int_of (column r 1))

-- ---- counts

abbrev pub counts_name : List ℕ
counts_name = codes "counts"

abbrev pub counts_columns : List (List ℕ)
counts_columns = codes "awb" ∷ codes "place" ∷ codes "pieces" ∷ codes "tenths" ∷ []

abbrev pub HasCountsTexts : CountKey × Count → Type 0
HasCountsTexts _ = Unit {0}

abbrev pub HoldsCounts : Database → List (CountKey × Count) → Type 0
HoldsCounts db = HoldsTable db counts_name counts_columns count_row
    (AreLawful (by_key count_cmp) HasCountsTexts)

-- ---- build

abbrev pub build_name : List ℕ
build_name = codes "build"

abbrev pub build_columns : List (List ℕ)
build_columns = codes "flight" ∷ codes "day" ∷ codes "awb" ∷ codes "pieces" ∷ codes "tenths"
    ∷ []

abbrev pub HasBuildTexts : BuildKey × Build → Type 0
HasBuildTexts e = IsText e.0.0

abbrev pub HoldsBuild : Database → List (BuildKey × Build) → Type 0
HoldsBuild db = HoldsTable db build_name build_columns build_row
    (AreLawful (by_key build_cmp) HasBuildTexts)

-- A database, the version as which it is read, and the content of its station tables.

-- a row of `waybill` as one of `waybill2`, with no day
abbrev pub undated_row : OldWaybillEntry → WaybillRow
undated_row row = record {
  awb = row.awb;
  origin = row.origin;
  destination = row.destination;
  pieces = row.pieces;
  tenths = row.tenths;
  goods = row.goods;
  notified = row.notified;
  since = pos 0;
}

pub record Reading : Type 0 where
  pub database : Database
  pub version : FileVersion

abbrev pub read_as : FileVersion → Database → Reading
read_as version db = record { database = db; version = version }

-- the content of its table `station`
abbrev pub station_read : Reading → Verdict
station_read r = station_of r.version r.database

-- its rows of `waybill`; read as version 1, there are none, as after an upgrade
abbrev pub HoldsOldWaybills : FileVersion → Database → List OldWaybill → Type 0
HoldsOldWaybills First db olds = olds ≡ []
HoldsOldWaybills Second db olds = HoldsOldWaybill db olds

-- its waybills: those of `waybill2`, or in a file of version 1 those of `waybill`, without their
-- day
abbrev pub HoldsWaybills : FileVersion → Database → List Waybill → Type 0
HoldsWaybills First db waybills = (olds : List OldWaybill) × HoldsOldWaybill db olds × (waybills ≡ map undated olds)
HoldsWaybills Second db waybills = HoldsWaybill db waybills

-- Folds over the rows of a table.

-- ---- results of a call

-- the fold over the rows that are held, None if no entries are
abbrev pub TellsFold : {F X E : Type 0} → (F → List X → Type 0) → (X → E) → (List E → Type 0) → Option F → Type 0
TellsFold {X = X} {E = E} Has meant Holds None = (entries : List E) → ¬ Holds entries
TellsFold {X = X} {E = E} Has meant Holds (Some fold) = (rows : List X) × Holds (map meant rows) × Has fold rows

-- a call that reads a table row by row: the rows are those that the database holds, and nothing
-- changes
abbrev pub FoldsTable : {S F X E : Type 0} → Ghosts S → Held S → Held S → Result (Option F) Error → (F → List X → Type 0) → (X → E) → (Database → List E → Type 0) → Type 0
FoldsTable g old new result Has meant Holds =
    HasCleanDisk (state g new) → IsTrue (state g old).is_open → Reads (state g old) (state g new) result (TellsFold Has meant (Holds (state g old).now))

-- ---- while rows are given

-- the entry of a typed row, or that the row isn't an entry
abbrev pub IsTyped : {X E : Type 0} → (X → E) → (E → Row) → (E → Type 0) → Row → Option X → Type 0
IsTyped {E = E} meant to_row IsLawful raw None = (e : E) → IsLawful e → raw ≢ to_row e
IsTyped meant to_row IsLawful raw (Some row) = (raw ≡ to_row (meant row)) × IsLawful (meant row)

-- the key of the last row, if there is one, is less than that of the next
abbrev pub follows : {X E : Type 0} → (X → E) → (E → E → Ordering) → Option X → X → Bool
follows meant cmp None next = true
follows meant cmp (Some last) next = is_lt (cmp (meant last) (meant next))

abbrev pub last_of : {X : Type 0} → Option X → List X
last_of None = []
last_of (Some x) = x ∷ []

-- the rows are entries so far, and all except the last are folded
pub record AreSoFar {X E F : Type 0} (Has : F → List X → Type 0) (meant : X → E) (to_row : E → Row) (Are : List E → Type 0) (given : List Row) (walk : Walk X F) : Type 0 where
  pub done : List X
  pub first : walk.last ≡ None → done ≡ []
  pub folded : Has walk.fold done
  pub rows : AreRowsOf to_row Are given (map meant (done ++ last_of walk.last))

abbrev pub BeginNone : {E : Type 0} → (E → Row) → (List E → Type 0) → List Row → Type 0
BeginNone {E} to_row Are given = (tail : List Row) (entries : List E) → ¬ AreRowsOf to_row Are (given ++ tail) entries

abbrev pub IsWalkedAs : {X E F : Type 0} → (F → List X → Type 0) → (X → E) → (E → Row) → (List E → Type 0) → List Row → Walk X F → Bool → Type 0
IsWalkedAs Has meant to_row Are given walk true = AreSoFar Has meant to_row Are given walk
IsWalkedAs Has meant to_row Are given walk false = BeginNone to_row Are given

-- the state of a walk after these rows
abbrev pub IsWalked : {X E F : Type 0} → (F → List X → Type 0) → (X → E) → (E → Row) → (List E → Type 0) → List Row → Walk X F → Type 0
IsWalked Has meant to_row Are given walk = IsWalkedAs Has meant to_row Are given walk walk.is_held

-- the fold over exactly these rows
abbrev pub TellsRows : {X E F : Type 0} → (F → List X → Type 0) → (X → E) → (E → Row) → (List E → Type 0) → List Row → Option F → Type 0
TellsRows {E = E} Has meant to_row Are given None = (entries : List E) → ¬ AreRowsOf to_row Are given entries
TellsRows {X} Has meant to_row Are given (Some fold) = (rows : List X) × AreRowsOf to_row Are given (map meant rows) × Has fold rows

-- ---- a query

-- if the text can be compiled, it only reads
abbrev pub IsReadOnly : Schema → List ℕ → Type 0
IsReadOnly schema text = (c : Compiled) → understood schema text ≡ Ok c → IsPlain (understood schema text)

-- at Ok the whole result was given, and satisfies `Is`; nothing changes
abbrev pub Walks : {X : Type 0} → List ℕ → Row → State → State → Result X Error → (List Row → X → Type 0) → Type 0
Walks sql params old new (Ok x) Is = IsUnchanged old new × (given : List Row) × Shown sql params old new given × Is given x
Walks sql params old new (Err e) Is = Stops old new
