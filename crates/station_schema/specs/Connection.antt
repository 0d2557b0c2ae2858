-- A connection as the tables of a station, and the effect of calls.
use Rattle.std.specs.Prelude.{ℕ, ◌⊎◌, Bool, Result, Ok, Err, Option, Some, None, List, ◌++◌, [], ◌∷◌, ◌≡◌, IsTrue, true, pos, false}
use Rattle.station_schema.specs.Common.{HasGiven, Held, state, Row, Error, State, IsUnchanged, Shown, Begins, Ghosts, HandedOut, Hands, empty, Trees, HasCleanDisk, Shows, KeepsCommit, Survives, insert_by, Schema, IsSound, IsOrdered, catalog_tree, IsListed}
use Rattle.station_schema.specs.Schema.{Stops, Reads, no_schema, old_schema, station_schema}
use Rattle.station_schema.specs.Tables.{Tables, tables_of, Station, station_id, IsStation}
use Rattle.station_schema.specs.Store.{View, IsAtRest}

-- Queries whose rows are handed out one at a time.

-- a sink takes a row, described by its value
abbrev pub taking : {S T X : Type 0} → (X → T → Type 0) → (S → T → Bool → S → Type 0) → S → X → Bool → S → Type 0
taking {T = T} stands takes old x go new = (row : T) × stands x row × takes old row go new

-- a query that gave these rows gives another, which is read as this; or these are its result
abbrev pub Moves : {S T : Type 0} → Ghosts S → List ℕ → Row → (Row → T → Type 0) → Held S → Held S → List Row → Result (Option T) Error → Type 0
Moves g sql params reads old new given (Ok (Some value)) = IsUnchanged (state g old) (state g new) × (row : Row) × reads row value × HasGiven g sql params new (given ++ row ∷ [])
Moves g sql params reads old new given (Ok None) = IsUnchanged (state g old) (state g new) × Shown sql params (state g old) (state g new) given
Moves g sql params reads old new given (Err e) = Stops (state g old) (state g new)

-- rows are a prefix of the result on an open connection
abbrev pub IsBeginning : List ℕ → Row → State → List Row → Type 0
IsBeginning sql params s rows = IsTrue s.is_open × Begins sql params s rows

-- At Ok the sink took the whole result, or the rows up to the one at which it stopped; at an error
-- a prefix. Nothing is changed.
abbrev pub Streams : {S : Type 0} → List ℕ → Row → State → State → (S → Row → Bool → S → Type 0) → S → S → Result (Unit {0}) Error → Type 0
Streams sql params old new takes from to (Ok x) =
    IsUnchanged old new × (given : List Row) × ((Shown sql params old new given × HandedOut takes given from to) ⊎ (IsBeginning sql params old given × ((tail : List Row) → HandedOut takes (given ++ tail) from to)))
Streams sql params old new takes from to (Err e) = Stops old new × (given : List Row) × ((given ≡ []) ⊎ IsBeginning sql params old given) × HandedOut takes given from to

-- the same for typed rows
abbrev pub StreamsRows : {S X : Type 0} → State → State → (S → X → Bool → S → Type 0) → List X → S → S → Result (Unit {0}) Error → Type 0
StreamsRows old new takes rows from to (Ok x) = Hands {E = Error} takes rows from to (Ok x) × IsUnchanged old new
StreamsRows old new takes rows from to (Err e) = Hands takes rows from to (Err e) × Stops old new

-- The view of a connection as the tables of a station.

abbrev pub view_of : State → View
view_of s = record {
  now = tables_of s.now.trees;
  committed = tables_of s.committed.trees;
  in_transaction = s.in_transaction;
  is_open = s.is_open;
  IsClean = HasCleanDisk s;
  IsSound = HasCleanDisk s;
  may_leave = λ t. (db : Trees) × s.may_leave db × (t ≡ tables_of db);
}

-- a connection over any store, even one that isn't a station's
abbrev pub connection_view : {S : Type 0} → Ghosts S → Held S → View
connection_view g conn = view_of (state g conn)

-- it has no table, index or view
abbrev pub IsVacant : {S : Type 0} → Ghosts S → Held S → Type 0
IsVacant g conn = (state g conn).now.schema ≡ no_schema

-- the tables of a new station
abbrev pub opening : List ℕ → Tables
opening airport = record {
  stations = record { id = pos 1; airport = airport; version = pos 2; confirmed = pos 0 } ∷ [];
  old_waybills = [];
  waybills = [];
  stock = empty;
  flights = empty;
  moves = [];
  expected = empty;
  parts = empty;
  trail = [];
  outbox = [];
  kept = empty;
  kept_texts = empty;
  counts = empty;
  builds = empty;
}

-- the tables of a new station are open and committed
pub record IsOpening (airport : List ℕ) (v : View) : Type 0 where
  pub is_open : v.is_open ≡ true
  pub at_rest : IsAtRest v
  pub now_is : v.now ≡ opening airport

-- Faults stay recorded, and the crash states are those from before or, in an empty store, the
-- tables of a new station.
pub record MayOpen (Vacant : Type 0) (airport : List ℕ) (old new : View) : Type 0 where
  pub sound : new.IsSound → old.IsSound
  pub crash : new.IsSound → (t : Tables) → new.may_leave t → old.may_leave t ⊎ (Vacant × (t ≡ opening airport))

-- The effect of a call on the tables of a station that a connection shows.

-- a transaction is open, and the tables are those of a station
pub record IsInside (s : State) : Type 0 where
  pub begun : IsTrue s.in_transaction
  pub station : IsStation s.now

-- the tables are changed in this way, and the transaction stays open
pub record Edits (old new : State) (change : Tables → Tables) : Type 0 where
  pub station : IsStation new.now
  pub tables : tables_of new.now.trees ≡ change (tables_of old.now.trees)
  pub shown : Shows old new new.now old.committed true

-- a write: at Ok the change is made, and at Err the last commit remains
abbrev pub Changes : {X : Type 0} → State → State → Result X Error → (Tables → Tables) → Type 0
Changes old new (Ok x) change = Edits old new change
Changes old new (Err e) change = KeepsCommit old new

-- the same for a call on a connection, as long as the disk is clean
abbrev pub Alters : {S X : Type 0} → Ghosts S → Held S → Held S → Result X Error → (Tables → Tables) → Type 0
Alters g old new result change =
    HasCleanDisk (state g new) → IsInside (state g old) → Changes (state g old) (state g new) result change

-- nothing is committed inside a transaction
abbrev pub CommitsNothing : {S : Type 0} → Ghosts S → Held S → Held S → Type 0
CommitsNothing g old new = Survives (state g old) (state g new) (λ _. ¬ IsInside (state g old))

-- a call that reads: at Ok `Is` holds of the tables and of what was read
abbrev pub Tells : {S X : Type 0} → Ghosts S → Held S → Held S → Result X Error → (Tables → X → Type 0) → Type 0
Tells g old new result Is =
    HasCleanDisk (state g new) → IsStation (state g old).now → Reads (state g old) (state g new) result (Is (tables_of (state g old).now.trees))

-- a call that hands the rows of a table to a sink, one after another
abbrev pub HandsRows : {S K X : Type 0} → Ghosts S → Held S → Held S → Result (Unit {0}) Error → (K → X → Bool → K → Type 0) → (Tables → List X) → K → K → Type 0
HandsRows g old new result takes rows from to =
    HasCleanDisk (state g new) → IsStation (state g old).now → StreamsRows (state g old) (state g new) takes (rows (tables_of (state g old).now.trees)) from to result

-- nothing is committed in a station's tables
abbrev pub LeavesAll : {S : Type 0} → Ghosts S → Held S → Held S → Type 0
LeavesAll g old new = Survives (state g old) (state g new) (λ _. ¬ IsStation (state g old).now)

-- it is open, and its tables are those of a station
pub record IsWorking (s : State) : Type 0 where
  pub is_open : IsTrue s.is_open
  pub station : IsStation s.now

abbrev pub new_station : List ℕ → Station
new_station airport = record { id = pos 1; airport = airport; version = pos 2; confirmed = pos 0 }

abbrev pub with_station : List ℕ → Tables → Tables
with_station airport tables = record tables { stations = insert_by station_id tables.stations (new_station airport) }

-- the tables of a new station are made, and the transaction stays open
pub record IsFilled (old new : State) (airport : List ℕ) : Type 0 where
  pub station : IsStation new.now
  pub tables : tables_of new.now.trees ≡ opening airport
  pub shown : Shows old new new.now old.committed true

abbrev pub Fills : {X : Type 0} → State → State → Result X Error → List ℕ → Type 0
Fills old new (Ok x) airport = IsFilled old new airport
Fills old new (Err e) airport = KeepsCommit old new

-- the tables of a new station are made and committed
pub record IsFounded (s : State) (airport : List ℕ) : Type 0 where
  pub is_open : IsTrue s.is_open
  pub outside : s.in_transaction ≡ false
  pub station : IsStation s.now
  pub tables : tables_of s.now.trees ≡ opening airport
  pub settled : s.committed ≡ s.now

abbrev pub Founds : {X : Type 0} → State → State → Result X Error → List ℕ → Type 0
Founds old new (Ok x) airport = IsFounded new airport
Founds old new (Err e) airport = KeepsCommit old new

-- Trees whose schema is that of a station.

-- these trees allow only the schema of a station
pub record IsOwn (db : Trees) : Type 0 where
  pub only : (schema : Schema) → IsSound schema db → schema ≡ station_schema

-- these trees allow only the schema of a station of version 1
pub record IsOldOwn (db : Trees) : Type 0 where
  pub only : (schema : Schema) → IsSound schema db → schema ≡ old_schema

-- These are the trees of a station that was just made.
pub record IsNewStation (airport : List ℕ) (db : Trees) : Type 0 where
  pub own : IsOwn db
  pub tables : tables_of db ≡ opening airport

-- In each open store of this type, the rows of the last commit are ordered by rowid, as its listing
-- says.
abbrev pub LiesInOrder : {S : Type 0} → Ghosts S → Type 0
LiesInOrder {S} g = (s : S) → IsTrue (g.view s).is_open
    → IsOrdered (g.view s).committed_shape (g.view s).committed
    × IsListed ((g.view s).committed catalog_tree) (g.view s).committed_shape (g.view s).committed_reals
