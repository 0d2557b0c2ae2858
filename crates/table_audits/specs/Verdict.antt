-- The audit of a database, table by table.
use Rattle.std.specs.Prelude.{◌≡◌, ℕ, ℤ, List, [], ◌∷◌, Bool, true, false, IsTrue, length, Result, Ok, Err, map, codes}
use Rattle.table_audits.specs.Common.{AllByRecursion, entries, Reading, station_read, HoldsOldWaybills, HoldsWaybills, Tables, HoldsStock, HoldsFlight, HoldsMoves, HoldsExpected, HoldsPart, HoldsTrail, HoldsOutbox, HoldsKeptKey, HoldsKeptText, HoldsCounts, HoldsBuild, one_row, new_row, airport_in, confirmed_in, Verdict, no_station, damaged, other_version, Error, HasCleanDisk, Held, state, Ghosts, Reads, waybill_meant, running, book_in, flight_entry, part_entry, read_as, TableName}
use Rattle.table_audits.specs.Lawful.{IsLawfulTable}
use Rattle.table_audits.specs.Moves.{RisesByNumber, listed_in, AreSums}
use Rattle.table_audits.specs.declared.name.TableName.TheVariants.{Station, Waybill, Waybill2, Stock, Flight, Moves, Expected, Part, Trail, Outbox, KeptKey, KeptText, Counts, Build}
use Rattle.table_audits.specs.declared.rows.Unfit.{Unfit}
use Rattle.table_audits.specs.declared.rows.Unfit.TheVariants.{NoStation, OtherVersion, Unlawful}
use Rattle.table_audits.specs.declared.state.FoundState.{FoundState}
use Rattle.table_audits.specs.declared.rows.Known.{Known}
use Rattle.table_audits.specs.declared.name.TableName.TheVariants as table

-- A database, read as a version, that has the tables of a station, and their lawfulness, table by
-- table.

-- the table `station` has one row, of the version as which it is read; in these tables it is of
-- version 2
abbrev pub HoldsStation : Reading → Tables → Type 0
HoldsStation db t = (airport : List ℕ) × (confirmed : ℤ) × (station_read db ≡ one_row airport confirmed) × (t.stations ≡ new_row airport confirmed ∷ [])

-- the database has the table with this name, with the rows of these tables
abbrev pub IsHeld : TableName → Reading → Tables → Type 0
IsHeld Station db t = HoldsStation db t
IsHeld Waybill db t = HoldsOldWaybills db.version db.database t.old_waybills
IsHeld Waybill2 db t = HoldsWaybills db.version db.database t.waybills
IsHeld Stock db t = HoldsStock db.database (entries t.stock)
IsHeld Flight db t = HoldsFlight db.database (entries t.flights)
IsHeld Moves db t = HoldsMoves db.database t.moves
IsHeld Expected db t = HoldsExpected db.database (entries t.expected)
IsHeld Part db t = HoldsPart db.database (entries t.parts)
IsHeld Trail db t = HoldsTrail db.database t.trail
IsHeld Outbox db t = HoldsOutbox db.database t.outbox
IsHeld KeptKey db t = HoldsKeptKey db.database (entries t.kept)
IsHeld KeptText db t = HoldsKeptText db.database (entries t.kept_texts)
IsHeld Counts db t = HoldsCounts db.database (entries t.counts)
IsHeld Build db t = HoldsBuild db.database (entries t.builds)

-- the tables before a table, in the order of their audits, the nearest first
abbrev pub before : TableName → List TableName
before Station = []
before Waybill = Station ∷ []
before Waybill2 = Waybill ∷ Station ∷ []
before Stock = Waybill2 ∷ Waybill ∷ Station ∷ []
before Flight = Stock ∷ Waybill2 ∷ Waybill ∷ Station ∷ []
before Moves = Flight ∷ Stock ∷ Waybill2 ∷ Waybill ∷ Station ∷ []
before Expected = Moves ∷ Flight ∷ Stock ∷ Waybill2 ∷ Waybill ∷ Station ∷ []
before Part = Expected ∷ Moves ∷ Flight ∷ Stock ∷ Waybill2 ∷ Waybill ∷ Station ∷ []
before Trail = Part ∷ Expected ∷ Moves ∷ Flight ∷ Stock ∷ Waybill2 ∷ Waybill ∷ Station ∷ []
before Outbox = Trail ∷ Part ∷ Expected ∷ Moves ∷ Flight ∷ Stock ∷ Waybill2 ∷ Waybill ∷ Station ∷ []
before KeptKey = Outbox ∷ Trail ∷ Part ∷ Expected ∷ Moves ∷ Flight ∷ Stock ∷ Waybill2 ∷ Waybill ∷ Station ∷ []
before KeptText = KeptKey ∷ Outbox ∷ Trail ∷ Part ∷ Expected ∷ Moves ∷ Flight ∷ Stock ∷ Waybill2 ∷ Waybill ∷ Station ∷ []
before Counts = KeptText ∷ KeptKey ∷ Outbox ∷ Trail ∷ Part ∷ Expected ∷ Moves ∷ Flight ∷ Stock ∷ Waybill2 ∷ Waybill ∷ Station ∷ []
before Build = Counts ∷ KeptText ∷ KeptKey ∷ Outbox ∷ Trail ∷ Part ∷ Expected ∷ Moves ∷ Flight ∷ Stock ∷ Waybill2 ∷ Waybill ∷ Station ∷ []

-- the table is there, and lawful with those before it
pub record IsGood (db : Reading) (t : Tables) (name : TableName) : Type 0 where
  pub held : IsHeld name db t
  pub lawful : IsLawfulTable name t

abbrev pub AreGood : Reading → Tables → List TableName → Type 0
AreGood db t = AllByRecursion (IsGood db t)

-- the database is a station's, and these are its tables
abbrev pub IsStationOf : Reading → Tables → Type 0
IsStationOf db t = AreGood db t (Build ∷ before Build)

-- the first bad table: up to it the database has a station's tables
pub record IsFirstBad (db : Reading) (name : TableName) : Type 0 where
  pub tables : Tables
  pub so_far : AreGood db tables (before name)
  pub no_further : (t : Tables) → ¬ AreGood db t (name ∷ before name)

-- The result of the audit of a database.

-- true if the table `station` has a row that, if it is the only one, is of the version as which it
-- is read
abbrev pub is_ours : Verdict → Bool
is_ours no_station = false
is_ours damaged = true
is_ours (other_version n) = false
is_ours (one_row airport confirmed) = true

-- the reason why a database isn't a station's
abbrev pub IsUnfit : Reading → Unfit → Type 0
IsUnfit db NoStation = station_read db ≡ no_station
IsUnfit db (OtherVersion n) = station_read db ≡ other_version n
IsUnfit db (Unlawful name) = IsTrue (is_ours (station_read db)) × IsFirstBad db name

-- the findings besides the rows: the airport, the last confirmed message, and the numbers of rows
pub record Tells (found : FoundState) (t : Tables) : Type 0 where
  pub here : found.here ≡ airport_in t.stations
  pub confirmed : found.confirmed ≡ confirmed_in t.stations
  pub moves : found.sizes.moves ≡ length t.moves
  pub lines : found.sizes.lines ≡ length t.trail
  pub messages : found.sizes.messages ≡ length t.outbox

-- the database is a station's, with these findings; or the reason why it isn't
abbrev pub Judges : Reading → Result FoundState Unfit → Type 0
Judges db (Ok found) = (t : Tables) × IsStationOf db t × Tells found t
Judges db (Err unfit) = IsUnfit db unfit

-- The audit of one table after another, and what is kept of each.

-- ---- the tables before a table

-- the tables before this table are all good
abbrev pub HasBefore : TableName → Reading → Type 0
HasBefore name db = (t : Tables) × AreGood db t (before name)

-- a property of the tables before this table, if they are good
abbrev pub OfBefore : TableName → Reading → (Tables → Type 0) → Type 0
OfBefore name db Is = (t : Tables) → AreGood db t (before name) → Is t

-- ---- what is kept

-- the airport, and the number of the last confirmed message
abbrev pub HasOwn : Known → Reading → Type 0
HasOwn known db = OfBefore table.Waybill db (λ t. (airport_in t.stations ≡ known.here) × (confirmed_in t.stations ≡ known.confirmed))

abbrev pub HasWaybills : Known → Reading → Type 0
HasWaybills known db =
    let waybills = map waybill_meant known.beside.waybills.items in
    RisesByNumber waybills × OfBefore table.Stock db (λ t. t.waybills ≡ waybills)

abbrev pub HasFlights : Known → Reading → Type 0
HasFlights known db = OfBefore table.Moves db (λ t. entries t.flights ≡ map flight_entry known.beside.flights.items)

-- the sums of the book's moves, and their number
abbrev pub HasBook : Known → Reading → Type 0
HasBook known db = OfBefore table.Expected db (λ t. AreSums (listed_in t) known.book.sums (running (book_in t.moves)) × (known.book.moves ≡ length t.moves))

abbrev pub HasParts : Known → Reading → Type 0
HasParts known db = OfBefore table.Trail db (λ t. entries t.parts ≡ map part_entry known.parts.items)

abbrev pub HasLines : Known → Reading → Type 0
HasLines known db = OfBefore table.Outbox db (λ t. known.lines ≡ length t.trail)

abbrev pub HasMessages : Known → Reading → Type 0
HasMessages known db = OfBefore table.KeptKey db (λ t. known.messages ≡ length t.outbox)

-- what is kept once this table is audited: of each table what a later audit needs
abbrev pub Keeps : TableName → Known → Reading → Type 0
Keeps table.Station known db = HasOwn known db
Keeps table.Waybill known db = HasOwn known db
Keeps table.Waybill2 known db = HasOwn known db × HasWaybills known db
Keeps table.Stock known db = HasOwn known db × HasWaybills known db
Keeps table.Flight known db = HasOwn known db × HasWaybills known db × HasFlights known db
Keeps table.Moves known db = HasOwn known db × HasWaybills known db × HasFlights known db × HasBook known db
Keeps table.Expected known db = HasOwn known db × HasWaybills known db × HasFlights known db × HasBook known db
Keeps table.Part known db = HasOwn known db × HasWaybills known db × HasFlights known db × HasBook known db × HasParts known db
Keeps table.Trail known db = HasOwn known db × HasFlights known db × HasBook known db × HasParts known db × HasLines known db
Keeps table.Outbox known db = HasOwn known db × HasFlights known db × HasBook known db × HasParts known db × HasLines known db × HasMessages known db
Keeps table.KeptKey known db = HasOwn known db × HasFlights known db × HasBook known db × HasParts known db × HasLines known db × HasMessages known db
Keeps table.KeptText known db = HasOwn known db × HasFlights known db × HasBook known db × HasLines known db × HasMessages known db
Keeps table.Counts known db = HasOwn known db × HasFlights known db × HasBook known db × HasLines known db × HasMessages known db
Keeps table.Build known db = HasOwn known db × HasBook known db × HasLines known db × HasMessages known db

-- what is kept of these tables, the nearest first; the row of `station` is there from the start
abbrev pub Knows : List TableName → Known → Reading → Type 0
Knows [] known db = HasBefore table.Waybill db × Keeps table.Station known db
Knows (name ∷ _) known db = Keeps name known db

-- ---- results

-- the table is good too, with this property; or it is the first bad one
abbrev pub IsJudged : TableName → Reading → Type 0 → Bool → Type 0
IsJudged name db Kept true = ((t : Tables) × AreGood db t (name ∷ before name)) × Kept
IsJudged name db Kept false = IsFirstBad db name

-- the property is what is kept of it and of the tables before it
abbrev pub HasJudged : TableName → Known → Reading → Bool → Type 0
HasJudged name known db = IsJudged name db ((db.version ≡ known.version) × Keeps name known db)

-- all tables are good, with these findings; or this is the first bad one
abbrev pub AreJudged : Reading → Result FoundState TableName → Type 0
AreJudged db (Ok found) = (t : Tables) × IsStationOf db t × Tells found t
AreJudged db (Err name) = IsFirstBad db name

-- A call that reads a database whose tables before this one are good, with what is kept of them,
-- returns the stated result and changes nothing.
abbrev pub JudgesOn : {S X : Type 0} → Ghosts S → Held S → Held S → Result X Error → TableName → Known → (Reading → X → Type 0) → Type 0
JudgesOn g old new result name known Says =
    let db = read_as known.version (state g old).now in
    HasCleanDisk (state g new) → IsTrue (state g old).is_open → HasBefore name db → Knows (before name) known db
    → Reads (state g old) (state g new) result (Says db)

-- the audit of one table, with what is kept before and after it
abbrev pub Audits : {S : Type 0} → Ghosts S → Held S → Held S → Result Bool Error → TableName → Known → Known → Type 0
Audits g old new result name known kept = JudgesOn g old new result name known (HasJudged name kept)

-- The names of the tables in the database.

abbrev pub name_text : TableName → List ℕ
name_text Station = codes "station"
name_text Waybill = codes "waybill"
name_text Waybill2 = codes "waybill2"
name_text Stock = codes "stock"
name_text Flight = codes "flight"
name_text Moves = codes "moves"
name_text Expected = codes "expected"
name_text Part = codes "part"
name_text Trail = codes "trail"
name_text Outbox = codes "outbox"
name_text KeptKey = codes "kept_key"
name_text KeptText = codes "kept_text"
name_text Counts = codes "counts"
name_text Build = codes "build"
