-- The schema of a station, and statements on a connection.
use Rattle.std.specs.Prelude.{◌≡◌, ℕ, Bool, ◌||◌, List, [], ◌∷◌, codes, is_some, ◌⊎◌, true, false, IsTrue, Result, Ok, Err, Some, None, map}
use Rattle.station_schema.specs.Common.{Trees, State, Survives, list_any, Schema, table_named, index_named, view_named, AllByRecursion, Error, Table, Shows, IsUnchanged, IsRolledBack, KeepsCommit, Binary, Null, Column, Index, plain, Kind, Integer, Bor}
use Rattle.sqlite.specs.Kind.TheVariants.{Text}
use Rattle.station_schema.specs.declared.shapes.IndexShape.{IndexShape}
use Rattle.station_schema.specs.declared.shapes.Key.{Key}
use Rattle.station_schema.specs.declared.shapes.Key.TheVariants.{Number, Columns}
use Rattle.station_schema.specs.declared.shapes.TableShape.{TableShape}

-- A change of a store in one step, whatever its tables.

-- the crash states are those from before, or one more database: the transaction's
abbrev pub IsOneStep : State → State → Type 0
IsOneStep old new = (made : Trees) × Survives old new (λ db. db ≡ made)

-- The names of a new station's tables and of its own index.

-- fourteen tables, and the index of the moves by waybill
abbrev pub station_names : List (List ℕ)
station_names =
    codes "station" ∷ codes "waybill" ∷ codes "stock" ∷ codes "flight" ∷ codes "moves" ∷ codes "moves_awb" ∷ codes "expected"
    ∷ codes "part" ∷ codes "trail" ∷ codes "outbox" ∷ codes "kept_key" ∷ codes "kept_text" ∷ codes "counts" ∷ codes "build" ∷ codes "waybill2" ∷ []

-- a table, an index or a view has this name, in any case of ASCII letters
abbrev pub is_taken : Schema → List ℕ → Bool
is_taken schema name = is_some (table_named schema name) || is_some (index_named schema name) || is_some (view_named schema name)

-- one of a new station's names is taken
abbrev pub takes_name : Schema → Bool
takes_name schema = list_any (λ name. is_taken schema name) station_names

-- The effect of a statement on a connection, whatever its tables.

-- nothing was done, or the transaction was rolled back
abbrev pub Stops : State → State → Type 0
Stops old new = IsUnchanged old new ⊎ IsRolledBack old new

-- a read: at Ok `Is` holds of what was read
abbrev pub Reads : {X : Type 0} → State → State → Result X Error → (X → Type 0) → Type 0
Reads old new (Ok x) Is = Is x × IsUnchanged old new
Reads old new (Err e) Is = Stops old new

abbrev pub Begins : {X : Type 0} → State → State → Result X Error → Type 0
Begins old new (Ok x) = Shows old new old.now old.committed true
Begins old new (Err e) = Stops old new

abbrev pub Commits : {X : Type 0} → State → State → Result X Error → Type 0
Commits old new (Ok x) = Shows old new old.now old.now false
Commits old new (Err e) = Stops old new

-- no transaction is open, and if the connection is open it is back at the last commit
pub record IsUndone (old new : State) : Type 0 where
  pub outside : new.in_transaction ≡ false
  pub was_open : IsTrue new.is_open → IsTrue old.is_open
  pub committed : IsTrue new.is_open → new.committed ≡ old.committed
  pub now : IsTrue new.is_open → new.now ≡ old.committed

-- no transaction is open, and if the connection is open it shows the last commit
pub record IsSettled (s : State) : Type 0 where
  pub outside : s.in_transaction ≡ false
  pub settled : IsTrue s.is_open → s.now ≡ s.committed

-- a transaction is open, with this schema, and its tables are empty
pub record IsMade (schema : Schema) (s : State) : Type 0 where
  pub begun : IsTrue s.in_transaction
  pub made : s.now.schema ≡ schema
  pub empty : AllByRecursion (λ (t : Table). s.now.trees t.tree ≡ []) schema.tables

abbrev pub Makes : {X : Type 0} → State → State → Result X Error → Schema → Type 0
Makes old new (Ok x) schema = IsMade schema new × Shows old new new.now old.committed true
Makes old new (Err e) schema = KeepsCommit old new

-- The tables of a station, as SQLite lists them.

-- a column of a STRICT table
abbrev pub key_column : List ℕ → Kind → Column
key_column name kind = record { name = name; kind = kind; is_strict = true; not_null = false; default = Null; collation = Binary }

abbrev pub column_of : List ℕ → Kind → Column
column_of name kind = record { name = name; kind = kind; is_strict = true; not_null = true; default = Null; collation = Binary }

-- a STRICT table whose first column is its INTEGER PRIMARY KEY; its rows are in the tree with this
-- number
abbrev pub keyed_table : ℕ → List ℕ → List Column → Table
keyed_table tree name columns = record {
  name = name;
  tree = tree;
  columns = columns;
  key = Some 0;
  primary = 0 ∷ [];
  uniques = [];
  orders = [];
  checks = [];
  references = [];
  computed = [];
  stamps = record { places = []; terms = []; formats = [] };
  is_counted = false;
}

-- a STRICT table whose PRIMARY KEY is of these columns
abbrev pub table_by : ℕ → List ℕ → List ℕ → List Column → Table
table_by tree places name columns = record {
  name = name;
  tree = tree;
  columns = columns;
  key = None;
  primary = places;
  uniques = places ∷ [];
  orders = plain ∷ [];
  checks = [];
  references = [];
  computed = [];
  stamps = record { places = []; terms = []; formats = [] };
  is_counted = false;
}

-- the index that SQLite makes for such a key
abbrev pub key_index : ℕ → ℕ → List ℕ → List ℕ → Index
key_index tree table places name = record {
  name = name;
  tree = tree;
  table = table;
  columns = places;
  order = plain;
  is_unique = true;
}

abbrev pub station : Table
station = keyed_table 0 (codes "station") (key_column (codes "id") Integer
    ∷ column_of (codes "airport") Text ∷ column_of (codes "version") Integer
    ∷ column_of (codes "confirmed") Integer ∷ [])

-- the waybills of a file of version 1; empty in version 2
abbrev pub waybill : Table
waybill = keyed_table 1 (codes "waybill") (key_column (codes "awb") Integer
    ∷ column_of (codes "origin") Text ∷ column_of (codes "destination") Text
    ∷ column_of (codes "pieces") Integer ∷ column_of (codes "tenths") Integer
    ∷ column_of (codes "goods") Text ∷ column_of (codes "notified") Integer ∷ [])

abbrev pub stock : Table
stock = table_by 2 (1 ∷ 2 ∷ []) (codes "stock") (column_of (codes "prefix") Integer
    ∷ column_of (codes "low") Integer ∷ column_of (codes "high") Integer
    ∷ column_of (codes "holder") Integer ∷ column_of (codes "agent") Text ∷ [])

abbrev pub stock_index : Index
stock_index = key_index 3 2 (1 ∷ 2 ∷ []) (codes "sqlite_autoindex_stock_1")

abbrev pub flight : Table
flight = table_by 4 (1 ∷ 2 ∷ []) (codes "flight") (column_of (codes "flight") Text
    ∷ column_of (codes "day") Integer ∷ column_of (codes "unload") Text
    ∷ column_of (codes "closed") Integer ∷ [])

abbrev pub flight_index : Index
flight_index = key_index 5 4 (1 ∷ 2 ∷ []) (codes "sqlite_autoindex_flight_1")

abbrev pub moves : Table
moves = keyed_table 6 (codes "moves") (key_column (codes "number") Integer
    ∷ column_of (codes "awb") Integer ∷ column_of (codes "src") Integer
    ∷ column_of (codes "dst") Integer ∷ column_of (codes "pieces") Integer
    ∷ column_of (codes "tenths") Integer ∷ column_of (codes "flight") Text
    ∷ column_of (codes "fday") Integer ∷ column_of (codes "day") Integer
    ∷ column_of (codes "minute") Integer ∷ [])

abbrev pub moves_index : Index
moves_index = record (key_index 7 6 (2 ∷ []) (codes "moves_awb")) { is_unique = false }

abbrev pub expected : Table
expected = table_by 8 (1 ∷ 2 ∷ 3 ∷ []) (codes "expected") (column_of (codes "flight") Text
    ∷ column_of (codes "day") Integer ∷ column_of (codes "awb") Integer
    ∷ column_of (codes "pieces") Integer ∷ column_of (codes "tenths") Integer
    ∷ column_of (codes "checked") Integer ∷ [])

abbrev pub expected_index : Index
expected_index = key_index 9 8 (1 ∷ 2 ∷ 3 ∷ []) (codes "sqlite_autoindex_expected_1")

abbrev pub part : Table
part = table_by 10 (1 ∷ 2 ∷ 3 ∷ 4 ∷ []) (codes "part") (column_of (codes "flight") Text
    ∷ column_of (codes "day") Integer ∷ column_of (codes "airport") Text
    ∷ column_of (codes "seq") Integer ∷ column_of (codes "body") Text ∷ [])

abbrev pub part_index : Index
part_index = key_index 11 10 (1 ∷ 2 ∷ 3 ∷ 4 ∷ []) (codes "sqlite_autoindex_part_1")

abbrev pub trail : Table
trail = keyed_table 12 (codes "trail") (key_column (codes "number") Integer
    ∷ column_of (codes "awb") Integer ∷ column_of (codes "line") Text ∷ [])

abbrev pub outbox : Table
outbox = keyed_table 13 (codes "outbox") (key_column (codes "number") Integer
    ∷ column_of (codes "body") Text ∷ [])

abbrev pub kept_key : Table
kept_key = table_by 14 (1 ∷ []) (codes "kept_key") (column_of (codes "id") Text
    ∷ column_of (codes "command") Text ∷ column_of (codes "count") Integer ∷ [])

abbrev pub kept_key_index : Index
kept_key_index = key_index 15 14 (1 ∷ []) (codes "sqlite_autoindex_kept_key_1")

abbrev pub kept_text : Table
kept_text = table_by 16 (1 ∷ []) (codes "kept_text") (column_of (codes "body") Text
    ∷ column_of (codes "count") Integer ∷ [])

abbrev pub kept_text_index : Index
kept_text_index = key_index 17 16 (1 ∷ []) (codes "sqlite_autoindex_kept_text_1")

abbrev pub counts : Table
counts = table_by 18 (1 ∷ 2 ∷ []) (codes "counts") (column_of (codes "awb") Integer
    ∷ column_of (codes "place") Integer ∷ column_of (codes "pieces") Integer
    ∷ column_of (codes "tenths") Integer ∷ [])

abbrev pub counts_index : Index
counts_index = key_index 19 18 (1 ∷ 2 ∷ []) (codes "sqlite_autoindex_counts_1")

abbrev pub build : Table
build = table_by 20 (1 ∷ 2 ∷ 3 ∷ []) (codes "build") (column_of (codes "flight") Text
    ∷ column_of (codes "day") Integer ∷ column_of (codes "awb") Integer
    ∷ column_of (codes "pieces") Integer ∷ column_of (codes "tenths") Integer ∷ [])

abbrev pub build_index : Index
build_index = key_index 21 20 (1 ∷ 2 ∷ 3 ∷ []) (codes "sqlite_autoindex_build_1")

-- the waybills of a file of version 2, with the day of their last declaration
abbrev pub waybill2 : Table
waybill2 = keyed_table 22 (codes "waybill2") (key_column (codes "awb") Integer
    ∷ column_of (codes "origin") Text ∷ column_of (codes "destination") Text
    ∷ column_of (codes "pieces") Integer ∷ column_of (codes "tenths") Integer
    ∷ column_of (codes "goods") Text ∷ column_of (codes "notified") Integer
    ∷ column_of (codes "since") Integer ∷ [])

abbrev pub no_schema : Schema
no_schema = record { tables = []; indexes = []; views = [] }

-- the tables of both versions, and more
abbrev pub schema_with : List Table → Schema
schema_with more = record {
  tables = station ∷ waybill ∷ stock ∷ flight ∷ moves ∷ expected ∷ part ∷ trail ∷ outbox ∷ kept_key
      ∷ kept_text ∷ counts ∷ build ∷ more;
  indexes = stock_index ∷ flight_index ∷ moves_index ∷ expected_index ∷ part_index ∷ kept_key_index
      ∷ kept_text_index ∷ counts_index ∷ build_index ∷ [];
  views = [];
}

-- the schema of a file of version 1
abbrev pub old_schema : Schema
old_schema = schema_with []

-- the schema of a file of version 2
abbrev pub station_schema : Schema
station_schema = schema_with (waybill2 ∷ [])

-- Columns that a table must have, by name and type.

-- such a column of a STRICT table, NOT NULL
abbrev pub column_as : Bor (List ℕ) × Kind → Column
column_as wanted = column_of wanted.0.now wanted.1

-- A table and an index by their shapes.

abbrev pub table_with : TableShape → Key → Table
table_with shape (Number key) =
    keyed_table shape.tree shape.name.now (key_column key.now Integer ∷ map column_as shape.columns.now)
table_with shape (Columns places) =
    table_by shape.tree places.now shape.name.now (map column_as shape.columns.now)

abbrev pub table_of : TableShape → Table
table_of shape = table_with shape shape.key

abbrev pub index_of : IndexShape → Index
index_of shape = record (key_index shape.tree shape.table shape.places.now shape.name.now) {
  is_unique = shape.is_unique;
}
