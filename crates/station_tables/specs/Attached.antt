-- Stores whose tables were found to be a station's, and what upgrading and reopening them may
-- find.
use Rattle.std.specs.Prelude.{◌≡◌, ⊤, Some, Result, Ok, Err, IsTrue, Option}
use Rattle.station_tables.specs.Common.{Database, Held, Ghosts, State, Tables, tables_of, meaning_of, Means, FoundState, Unfit, IsStationOf, Reading, read_as, FileVersion, First, Second, TableName, Waybill, Waybill2, IsUnfit, Tells, Trees, IsSettled, IsOwn, View, AttachFault, Station}
use Rattle.table_audits.specs.declared.rows.Unfit.TheVariants as unfit
use Rattle.sqlite.specs.State as sqlite
use Rattle.station_engine.specs.Serving as stored
use Rattle.table_state.specs.Shown as state_tables
use Rattle.station_tables.specs.declared.attaching.AttachFault.TheVariants as fault

-- Stores whose tables were found to be a station's.

-- the database, read as a version, is a station's, and its tables mean this state
pub record IsStateOf (r : Reading) (s : State) : Type 0 where
  pub tables : Tables
  pub is_station : IsStationOf r tables
  pub means : meaning_of tables ≡ s

-- the same for the current version
abbrev pub IsStateIn : Database → State → Type 0
IsStateIn db s = IsStateOf (read_as Second db) s

-- the same for version 1, in which no waybill has a day of declaration
abbrev pub IsOldStateIn : Database → State → Type 0
IsOldStateIn db s = IsStateOf (read_as First db) s

-- the typed tables of a database mean the state
pub record IsTypedState (db : Database) (s : State) : Type 0 where
  pub means : Means (tables_of db.trees) (Some s)

-- the findings besides the rows are true of a state that the tables mean
pub record IsFoundIn (r : Reading) (found : FoundState) : Type 0 where
  pub state : State
  pub is_in : IsStateOf r state
  pub tells : Tells found is_in.tables

-- the database is a station's, with these findings; or the reason why it isn't
abbrev pub IsJudged : Reading → Result FoundState Unfit → Type 0
IsJudged r (Ok found) = IsFoundIn r found
IsJudged r (Err why) = IsUnfit r why

-- the table of a version 1 file that has these rows
abbrev pub old_name : TableName → TableName
old_name Waybill2 = Waybill
old_name name = name

-- this table is the first unlawful one, if the database is read as a version
abbrev pub IsUnlawfulAt : FileVersion → Database → TableName → Type 0
IsUnlawfulAt First db name = (audited : TableName) × (name ≡ old_name audited) × IsUnfit (read_as First db) (unfit.Unlawful audited)
IsUnlawfulAt Second db name = IsUnfit (read_as Second db) (unfit.Unlawful name)

-- the reason why a database is refused is true; `Store` and `Memory` guarantee nothing about it
abbrev pub RefusesAs : FileVersion → Database → AttachFault → Type 0
RefusesAs version db (fault.Unlawful name) = IsUnlawfulAt version db name
RefusesAs version db fault.NoStation = IsUnfit (read_as version db) unfit.NoStation
RefusesAs version db (fault.Version n) = IsUnfit (read_as version db) (unfit.OtherVersion n)
RefusesAs version db fault.Occupied = ⊥
RefusesAs version db fault.Store = ⊤
RefusesAs version db fault.Memory = ⊤

abbrev pub Refuses : Database → AttachFault → Type 0
Refuses db fault = RefusesAs Second db fault

-- nothing is wrong with the tables
abbrev pub IsBreakdown : AttachFault → Type 0
IsBreakdown fault.Store = ⊤
IsBreakdown fault.Memory = ⊤
IsBreakdown _ = ⊥

abbrev pub connection_in : {S : Type 0} {g : Ghosts S} → Station S g → Held S
connection_in station = station.stored.store.store.conn

-- The effect of an upgrade on a file of version 1.

-- the trees are of version 2, as a station declares it, with the state that the database had as
-- version 1
pub record IsMigrated (old : Database) (db : Trees) : Type 0 where
  pub own : IsOwn db
  pub means : (s : State) → IsOldStateIn old s → Means (tables_of db) (Some s)

-- the file is of version 2 with that state, the connection is open and at rest, and there is no
-- other crash state
pub record HasMigrated (old : Database) (new : sqlite.State) : Type 0 where
  pub is_open : IsTrue new.is_open
  pub settled : IsSettled new
  pub migrated : IsMigrated old new.now.trees
  pub kept : (s : State) → IsOldStateIn old s → IsStateIn new.now s
  pub alone : (db : Trees) → new.may_leave db → db ≡ new.now.trees

-- States that reopening a store of tables may find.

-- a lawful state of some tables that a crash may leave, or none
abbrev pub Finds : View → Option State → Type 0
Finds v found = stored.Finds (state_tables.Finds v) found
