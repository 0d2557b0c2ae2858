-- The tables of a station as typed rows.
use Rattle.std.specs.Prelude.{◌≡◌, false, ℤ, List, ◌∷◌, map, option_map, unwrap_or, ◌==◌, pos, ℕ, [], MatchBool}
use Rattle.station_schema.specs.Common.{Ordering, eq_by_cmp, FinMap, get, insert, Int, Row, column, IsAscending, IsKeyedBy, int_of, Null, Text, AllByRecursion, Trees, Table, Database, bytes_of, bytes_cmp, int_cmp, int_eq, from_entries, update_where}
use Rattle.sqlite_keyed.proofs.SortLemmas.{pair_cmp}
use Rattle.station_schema.specs.Schema.{old_schema, station_schema}

-- A table whose key is made of columns. Its map has neither the rowids, which SQLite chose, nor the
-- order of insertion.

-- a row with its rowid, and the conversion back
abbrev pub numbered : {E : Type 0} → (E → Row) → ℤ × E → Row
numbered to_row n = Int n.0 ∷ to_row n.1

abbrev pub numbered_in : {E : Type 0} → (Row → E) → Row → ℤ × E
numbered_in from_row r = (int_of (column r 0), from_row r)

-- the rows of a tree are the entries of a map, in some order, each key once
pub record AreEntries {K V : Type 0} (R : K → K → Ordering) (to_row : K × V → Row) (from_row : Row → K × V) (stored : List Row) : Type 0 where
  pub rows : stored ≡ map (numbered to_row) (map (numbered_in from_row) stored)
  pub keyed : IsKeyedBy (λ n. n.0) (map (numbered_in from_row) stored)
  pub apart : IsAscending (λ a b. eq_by_cmp R a.1.0 b.1.0 ≡ false) (map (numbered_in from_row) stored)

-- the rows of a tree are typed, and their keys ascend: SQLite gets the key as the rowid
pub record AreListed {X : Type 0} (key : X → ℤ) (to_row : X → Row) (from_row : Row → X) (stored : List Row) : Type 0 where
  pub rows : stored ≡ map to_row (map from_row stored)
  pub keyed : IsKeyedBy key (map from_row stored)

-- the map, with the value at a key changed, if it has one
abbrev pub adjust : {K V : Type 0} {R : K → K → Ordering} → FinMap R V → K → (V → V) → FinMap R V
adjust m k g = unwrap_or (option_map (λ v. insert m k (g v)) (get m k)) m

-- The tables of a station as typed rows: a list if SQLite gets the key as a rowid, and a map if the
-- key has columns.

-- For each table: a row (without a key of columns), the stored row, and the conversion back. A
-- stored row begins with its rowid; SQLite stores NULL instead of an INTEGER PRIMARY KEY.

-- ---- station

-- the one row of `station`
pub record Station : Type 0 where
  pub id : ℤ
  pub airport : List ℕ
  pub version : ℤ
  pub confirmed : ℤ

abbrev pub station_id : Station → ℤ
station_id s = s.id

abbrev pub station_row : Station → Row
station_row s = Int s.id ∷ Null ∷ Text s.airport ∷ Int s.version ∷ Int s.confirmed ∷ []

abbrev pub station_in : Row → Station
station_in r = record {
  id = int_of (column r 0);
  airport = bytes_of (column r 2);
  version = int_of (column r 3);
  confirmed = int_of (column r 4);
}

-- ---- waybill: those of a file of version 1

-- a row of `waybill`
pub record OldWaybill : Type 0 where
  pub awb : ℤ
  pub origin : List ℕ
  pub destination : List ℕ
  pub pieces : ℤ
  pub tenths : ℤ
  pub goods : List ℕ
  pub notified : ℤ

abbrev pub old_waybill_id : OldWaybill → ℤ
old_waybill_id w = w.awb

abbrev pub old_waybill_row : OldWaybill → Row
old_waybill_row w = Int w.awb ∷ Null ∷ Text w.origin ∷ Text w.destination ∷ Int w.pieces ∷ Int w.tenths
    ∷ Text w.goods ∷ Int w.notified ∷ []

abbrev pub old_waybill_in : Row → OldWaybill
old_waybill_in r = record {
  awb = int_of (column r 0);
  origin = bytes_of (column r 2);
  destination = bytes_of (column r 3);
  pieces = int_of (column r 4);
  tenths = int_of (column r 5);
  goods = bytes_of (column r 6);
  notified = int_of (column r 7);
}

-- ---- waybill2

-- a row of `waybill2`: `since` is the day of its last declaration, or 0 if unknown
pub record Waybill : Type 0 where
  pub awb : ℤ
  pub origin : List ℕ
  pub destination : List ℕ
  pub pieces : ℤ
  pub tenths : ℤ
  pub goods : List ℕ
  pub notified : ℤ
  pub since : ℤ

abbrev pub waybill_id : Waybill → ℤ
waybill_id w = w.awb

abbrev pub waybill_row : Waybill → Row
waybill_row w = Int w.awb ∷ Null ∷ Text w.origin ∷ Text w.destination ∷ Int w.pieces ∷ Int w.tenths
    ∷ Text w.goods ∷ Int w.notified ∷ Int w.since ∷ []

abbrev pub waybill_in : Row → Waybill
waybill_in r = record {
  awb = int_of (column r 0);
  origin = bytes_of (column r 2);
  destination = bytes_of (column r 3);
  pieces = int_of (column r 4);
  tenths = int_of (column r 5);
  goods = bytes_of (column r 6);
  notified = int_of (column r 7);
  since = int_of (column r 8);
}

-- ---- stock

-- a row of `stock`, without its key
pub record Stock : Type 0 where
  pub high : ℤ
  pub holder : ℤ
  pub agent : List ℕ

-- prefix and low
abbrev pub StockKey : Type 0
StockKey = ℤ × ℤ

abbrev pub stock_cmp : StockKey → StockKey → Ordering
stock_cmp = pair_cmp int_cmp int_cmp

abbrev pub stock_row : StockKey × Stock → Row
stock_row e = Int e.0.0 ∷ Int e.0.1 ∷ Int e.1.high ∷ Int e.1.holder ∷ Text e.1.agent ∷ []

abbrev pub stock_in : Row → StockKey × Stock
stock_in r = (
  (int_of (column r 1), int_of (column r 2)),
  record { high = int_of (column r 3); holder = int_of (column r 4); agent = bytes_of (column r 5) },
)

-- ---- flight

-- a row of `flight`, without its key
pub record Flight : Type 0 where
  pub unload : List ℕ
  pub closed : ℤ

abbrev pub FlightKey : Type 0
FlightKey = List ℕ × ℤ

abbrev pub flight_cmp : FlightKey → FlightKey → Ordering
flight_cmp = pair_cmp bytes_cmp int_cmp

abbrev pub flight_row : FlightKey × Flight → Row
flight_row e = Text e.0.0 ∷ Int e.0.1 ∷ Text e.1.unload ∷ Int e.1.closed ∷ []

abbrev pub flight_in : Row → FlightKey × Flight
flight_in r = (
  (bytes_of (column r 1), int_of (column r 2)),
  record { unload = bytes_of (column r 3); closed = int_of (column r 4) },
)

-- ---- moves

-- a row of `moves`
pub record Move : Type 0 where
  pub number : ℤ
  pub awb : ℤ
  pub src : ℤ
  pub dst : ℤ
  pub pieces : ℤ
  pub tenths : ℤ
  pub flight : List ℕ
  pub fday : ℤ
  pub day : ℤ
  pub minute : ℤ

abbrev pub move_id : Move → ℤ
move_id m = m.number

abbrev pub move_row : Move → Row
move_row m = Int m.number ∷ Null ∷ Int m.awb ∷ Int m.src ∷ Int m.dst ∷ Int m.pieces ∷ Int m.tenths
    ∷ Text m.flight ∷ Int m.fday ∷ Int m.day ∷ Int m.minute ∷ []

abbrev pub move_in : Row → Move
move_in r = record {
  number = int_of (column r 0);
  awb = int_of (column r 2);
  src = int_of (column r 3);
  dst = int_of (column r 4);
  pieces = int_of (column r 5);
  tenths = int_of (column r 6);
  flight = bytes_of (column r 7);
  fday = int_of (column r 8);
  day = int_of (column r 9);
  minute = int_of (column r 10);
}

-- ---- expected

-- a row of `expected`, without its key
pub record Expected : Type 0 where
  pub pieces : ℤ
  pub tenths : ℤ
  pub checked : ℤ

-- flight, day and awb
abbrev pub ExpectedKey : Type 0
ExpectedKey = List ℕ × (ℤ × ℤ)

abbrev pub expected_cmp : ExpectedKey → ExpectedKey → Ordering
expected_cmp = pair_cmp bytes_cmp (pair_cmp int_cmp int_cmp)

abbrev pub expected_row : ExpectedKey × Expected → Row
expected_row e = Text e.0.0 ∷ Int e.0.1.0 ∷ Int e.0.1.1 ∷ Int e.1.pieces ∷ Int e.1.tenths
    ∷ Int e.1.checked ∷ []

abbrev pub expected_in : Row → ExpectedKey × Expected
expected_in r = (
  (bytes_of (column r 1), (int_of (column r 2), int_of (column r 3))),
  record { pieces = int_of (column r 4); tenths = int_of (column r 5); checked = int_of (column r 6) },
)

-- ---- part

-- flight, day, airport and seq
abbrev pub PartKey : Type 0
PartKey = List ℕ × (ℤ × (List ℕ × ℤ))

abbrev pub part_cmp : PartKey → PartKey → Ordering
part_cmp = pair_cmp bytes_cmp (pair_cmp int_cmp (pair_cmp bytes_cmp int_cmp))

abbrev pub part_row : PartKey × List ℕ → Row
part_row e = Text e.0.0 ∷ Int e.0.1.0 ∷ Text e.0.1.1.0 ∷ Int e.0.1.1.1 ∷ Text e.1 ∷ []

abbrev pub part_in : Row → PartKey × List ℕ
part_in r = ((bytes_of (column r 1), (int_of (column r 2), (bytes_of (column r 3), int_of (column r 4)))), bytes_of (column r 5))

-- ---- trail

-- a row of `trail`
pub record TrailLine : Type 0 where
  pub number : ℤ
  pub awb : ℤ
  pub line : List ℕ

abbrev pub trail_id : TrailLine → ℤ
trail_id t = t.number

abbrev pub trail_row : TrailLine → Row
trail_row t = Int t.number ∷ Null ∷ Int t.awb ∷ Text t.line ∷ []

abbrev pub trail_in : Row → TrailLine
trail_in r = record {
  number = int_of (column r 0);
  awb = int_of (column r 2);
  line = bytes_of (column r 3);
}

-- ---- outbox

-- a row of `outbox`
pub record Message : Type 0 where
  pub number : ℤ
  pub body : List ℕ

abbrev pub message_id : Message → ℤ
message_id m = m.number

abbrev pub message_row : Message → Row
message_row m = Int m.number ∷ Null ∷ Text m.body ∷ []

abbrev pub message_in : Row → Message
message_in r = record {
  number = int_of (column r 0);
  body = bytes_of (column r 2);
}

-- ---- kept_key

-- a row of `kept_key`, without its key
pub record Kept : Type 0 where
  pub command : List ℕ
  pub count : ℤ

abbrev pub kept_cmp : List ℕ → List ℕ → Ordering
kept_cmp = bytes_cmp

abbrev pub kept_row : List ℕ × Kept → Row
kept_row e = Text e.0 ∷ Text e.1.command ∷ Int e.1.count ∷ []

abbrev pub kept_in : Row → List ℕ × Kept
kept_in r = (
  bytes_of (column r 1),
  record { command = bytes_of (column r 2); count = int_of (column r 3) },
)

-- ---- kept_text

abbrev pub kept_text_cmp : List ℕ → List ℕ → Ordering
kept_text_cmp = bytes_cmp

abbrev pub kept_text_row : List ℕ × ℤ → Row
kept_text_row e = Text e.0 ∷ Int e.1 ∷ []

abbrev pub kept_text_in : Row → List ℕ × ℤ
kept_text_in r = (bytes_of (column r 1), int_of (column r 2))

-- ---- counts

-- a row of `counts`, without its key
pub record Count : Type 0 where
  pub pieces : ℤ
  pub tenths : ℤ

-- awb and place
abbrev pub CountKey : Type 0
CountKey = ℤ × ℤ

abbrev pub count_cmp : CountKey → CountKey → Ordering
count_cmp = pair_cmp int_cmp int_cmp

abbrev pub count_row : CountKey × Count → Row
count_row e = Int e.0.0 ∷ Int e.0.1 ∷ Int e.1.pieces ∷ Int e.1.tenths ∷ []

abbrev pub count_in : Row → CountKey × Count
count_in r = (
  (int_of (column r 1), int_of (column r 2)),
  record { pieces = int_of (column r 3); tenths = int_of (column r 4) },
)

-- ---- build

-- a row of `build`, without its key
pub record Build : Type 0 where
  pub pieces : ℤ
  pub tenths : ℤ

-- flight, day and awb
abbrev pub BuildKey : Type 0
BuildKey = List ℕ × (ℤ × ℤ)

abbrev pub build_cmp : BuildKey → BuildKey → Ordering
build_cmp = pair_cmp bytes_cmp (pair_cmp int_cmp int_cmp)

abbrev pub build_row : BuildKey × Build → Row
build_row e = Text e.0.0 ∷ Int e.0.1.0 ∷ Int e.0.1.1 ∷ Int e.1.pieces ∷ Int e.1.tenths ∷ []

abbrev pub build_in : Row → BuildKey × Build
build_in r = (
  (bytes_of (column r 1), (int_of (column r 2), int_of (column r 3))),
  record { pieces = int_of (column r 4); tenths = int_of (column r 5) },
)

-- ---- all tables

pub record Tables : Type 0 where
  pub stations : List Station
  pub old_waybills : List OldWaybill
  pub waybills : List Waybill
  pub stock : FinMap stock_cmp Stock
  pub flights : FinMap flight_cmp Flight
  pub moves : List Move
  pub expected : FinMap expected_cmp Expected
  pub parts : FinMap part_cmp (List ℕ)
  pub trail : List TrailLine
  pub outbox : List Message
  pub kept : FinMap kept_cmp Kept
  pub kept_texts : FinMap kept_text_cmp ℤ
  pub counts : FinMap count_cmp Count
  pub builds : FinMap build_cmp Build

-- the rows of each table, as stored in its tree
abbrev pub tables_of : Trees → Tables
tables_of db = record {
  stations = map station_in (db 0);
  old_waybills = map old_waybill_in (db 1);
  waybills = map waybill_in (db 22);
  stock = from_entries (map stock_in (db 2));
  flights = from_entries (map flight_in (db 4));
  moves = map move_in (db 6);
  expected = from_entries (map expected_in (db 8));
  parts = from_entries (map part_in (db 10));
  trail = map trail_in (db 12);
  outbox = map message_in (db 13);
  kept = from_entries (map kept_in (db 14));
  kept_texts = from_entries (map kept_text_in (db 16));
  counts = from_entries (map count_in (db 18));
  builds = from_entries (map build_in (db 20));
}

-- each row of the table with this tree is typed, and keys occur once
abbrev pub IsTyped : ℕ → List Row → Type 0
IsTyped t rows =
    MatchBool (t == 0) (AreListed station_id station_row station_in rows)
    (MatchBool (t == 1) (AreListed old_waybill_id old_waybill_row old_waybill_in rows)
    (MatchBool (t == 2) (AreEntries stock_cmp stock_row stock_in rows)
    (MatchBool (t == 4) (AreEntries flight_cmp flight_row flight_in rows)
    (MatchBool (t == 6) (AreListed move_id move_row move_in rows)
    (MatchBool (t == 8) (AreEntries expected_cmp expected_row expected_in rows)
    (MatchBool (t == 10) (AreEntries part_cmp part_row part_in rows)
    (MatchBool (t == 12) (AreListed trail_id trail_row trail_in rows)
    (MatchBool (t == 13) (AreListed message_id message_row message_in rows)
    (MatchBool (t == 14) (AreEntries kept_cmp kept_row kept_in rows)
    (MatchBool (t == 16) (AreEntries kept_text_cmp kept_text_row kept_text_in rows)
    (MatchBool (t == 18) (AreEntries count_cmp count_row count_in rows)
    (MatchBool (t == 20) (AreEntries build_cmp build_row build_in rows)
    (MatchBool (t == 22) (AreListed waybill_id waybill_row waybill_in rows) (Unit {0}))))))))))))))

abbrev pub AreTyped : Trees → Type 0
AreTyped db = AllByRecursion (λ (table : Table). IsTyped table.tree (db table.tree)) station_schema.tables

-- ---- a file of version 1

-- a waybill of version 1 as one of `waybill2`, without its day
abbrev pub undated : OldWaybill → Waybill
undated w = record {
  awb = w.awb;
  origin = w.origin;
  destination = w.destination;
  pieces = w.pieces;
  tenths = w.tenths;
  goods = w.goods;
  notified = w.notified;
  since = pos 0;
}

-- the tables of a file of version 1: there is no `waybill2`
abbrev pub old_tables_of : Trees → Tables
old_tables_of db = record (tables_of db) { waybills = [] }

-- the row of `station`, of version 2
abbrev pub raised : List Station → List Station
raised stations = update_where (λ s. int_eq (station_id s) (pos 1)) (λ s. record s { version = pos 2 }) stations

-- the tables of version 2 after an upgrade
abbrev pub upgraded : Tables → Tables
upgraded t = record t { stations = raised t.stations; old_waybills = []; waybills = map undated t.old_waybills }

-- the database has the tables of such a station, with typed rows
pub record IsOldStation (db : Database) : Type 0 where
  pub schema : db.schema ≡ old_schema
  pub typed : AllByRecursion (λ (table : Table). IsTyped table.tree (db.trees table.tree)) old_schema.tables

-- ---- a station

-- the database has a station's tables, with typed rows
pub record IsStation (db : Database) : Type 0 where
  pub schema : db.schema ≡ station_schema
  pub typed : AreTyped db.trees
