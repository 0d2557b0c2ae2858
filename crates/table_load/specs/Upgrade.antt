-- Selects, and the upgrade of a file of version 1.
use Rattle.std.specs.Prelude.{◌≡◌, ◌<◌, ◌≤◌, ℕ, List, [], ◌∷◌, map, take, length, false, None, Ok, fold, true, IsTrue, Result, Err}
use Rattle.table_load.specs.Common.{Expr, out-Expr, Expr-F, Shown-F, Shown, out-Shown, Sort, out-Sort, Source, out-Source, Core, out-Core, Select, out-Select, Parsed, first, AllByRecursion, Database, Tables, IsStation, IsOldStation, tables_of, old_tables_of, Trees, Error, State, Shows, KeepsCommit, insert_by, undated, raised, upgraded, waybill_id, IsOwn}
use Rattle.sqlite_ast.specs.declared.Origin.TheVariants as origin
use Rattle.sqlite_ast.specs.declared.Statement.TheVariants as written
use Rattle.table_load.specs.declared.query.TableQuery.{TableQuery}

-- SQL texts that select columns of one table, ordered by the first of them.

-- exactly these columns are shown, without AS
abbrev pub AreShown : List Shown → List (List ℕ) → Type 0
AreShown [] [] = Unit {0}
AreShown [] (n ∷ names) = ⊥
AreShown (s ∷ more) [] = ⊥
AreShown (s ∷ more) (n ∷ names) = ((e : Expr) × (text : List ℕ) × (out-Shown s ≡ Shown-F.One e None text) × (out-Expr e ≡ Expr-F.Column None n)) × AreShown more names

-- the rows are ordered by these columns, ascending
abbrev pub AreSorts : List Sort → List (List ℕ) → Type 0
AreSorts [] [] = Unit {0}
AreSorts [] (n ∷ names) = ⊥
AreSorts (s ∷ more) [] = ⊥
AreSorts (s ∷ more) (n ∷ names) = ((out-Expr (out-Sort s).key ≡ Expr-F.Column None n) × ((out-Sort s).nulls_first ≡ None) × ((out-Sort s).descending ≡ false)) × AreSorts more names

pub record IsPlainSource (name : List ℕ) (src : Source) : Type 0 where
  pub origin_is : (out-Source src).origin ≡ origin.Table name
  pub alias_is : (out-Source src).alias ≡ None
  pub using_is : (out-Source src).using ≡ []
  pub inner_is : (out-Source src).is_left ≡ false
  pub on_is : (out-Source src).on ≡ None

pub record IsPlainCore (name : List ℕ) (names : List (List ℕ)) (core : Core) : Type 0 where
  pub shown_is : AreShown (out-Core core).shown names
  pub source : Source
  pub from_is : (out-Core core).from ≡ source ∷ []
  pub plain_source : IsPlainSource name source
  pub distinct_is : (out-Core core).distinct ≡ false
  pub filter_is : (out-Core core).filter ≡ None
  pub group_is : (out-Core core).group ≡ []
  pub having_is : (out-Core core).having ≡ None

pub record IsPlainSelect (name : List ℕ) (names keys : List (List ℕ)) (sel : Select) : Type 0 where
  pub with_is : (out-Select sel).with ≡ []
  pub others_is : (out-Select sel).others ≡ []
  pub limit_is : (out-Select sel).limit ≡ None
  pub offset_is : (out-Select sel).offset ≡ None
  pub core_is : IsPlainCore name names (out-Select sel).first
  pub order_is : AreSorts (out-Select sel).order keys

-- SELECT names FROM name ORDER BY keys; each field is proved by `refl`
pub record IsSelect (text name : List ℕ) (names keys : List (List ℕ)) : Type 0 where
  pub p : Parsed
  pub sel : Select
  pub first_is : first text ≡ Ok p
  pub statement_is : p.statement ≡ written.Select sel
  pub formats_is : p.formats ≡ []
  pub select_is : IsPlainSelect name names keys sel
  pub few : length names < 1000
  pub few_keys : length keys < 1000

abbrev pub column_names : TableQuery → List (List ℕ)
column_names query = map (λ n. n.now) query.columns.now

-- the text selects the columns of the table, ordered by those of the key
pub record IsQuery (query : TableQuery) : Type 0 where
  pub few : query.keys ≤ length (column_names query)
  pub selects : IsSelect query.text.now query.name.now (column_names query) (take query.keys (column_names query))

-- The entries of a database whose tables a station declares.

-- this list is the only one that can be held, and it is held if its texts are texts
abbrev pub IsHeldBy : {E : Type 0} → (Database → List E → Type 0) → (E → Type 0) → Database → List E
    → Type 0
IsHeldBy {E} Holds HasTexts db list = ((es : List E) → Holds db es → list ≡ es) × (AllByRecursion HasTexts list → Holds db list)

-- the same for a list of the typed tables, in a file of version 2
abbrev pub HoldsTyped : {E : Type 0} → (Database → List E → Type 0) → (E → Type 0)
    → (Tables → List E) → Type 0
HoldsTyped Holds HasTexts list = (db : Database) → IsStation db → IsHeldBy Holds HasTexts db (list (tables_of db.trees))

-- the same for version 1
abbrev pub HoldsOld : {E : Type 0} → (Database → List E → Type 0) → (E → Type 0) → (Tables → List E)
    → Type 0
HoldsOld Holds HasTexts list = (db : Database) → IsOldStation db → IsHeldBy Holds HasTexts db (list (old_tables_of db.trees))

-- The effect of an upgrade on the tables of a file of version 1.

-- the three writes, whether `waybill2` has rows already or not
abbrev pub copying : Tables → Tables
copying t = record t { waybills = fold (insert_by waybill_id) t.waybills (map undated t.old_waybills) }

abbrev pub clearing : Tables → Tables
clearing t = record t { old_waybills = [] }

abbrev pub raising : Tables → Tables
raising t = record t { stations = raised t.stations }

abbrev pub filling : Tables → Tables
filling t = raising (clearing (copying t))

-- a transaction is open, and the tables are those of version 1
pub record IsInsideOld (s : State) : Type 0 where
  pub begun : IsTrue s.in_transaction
  pub station : IsOldStation s.now

-- these are the tables now, those of version 2, and the transaction stays open
pub record IsMoved (old new : State) (now : Tables) : Type 0 where
  pub station : IsStation new.now
  pub tables : tables_of new.now.trees ≡ now
  pub shown : Shows old new new.now old.committed true

-- `waybill2` is made empty, and nothing else changed
abbrev pub Adds : {X : Type 0} → State → State → Result X Error → Type 0
Adds old new (Ok x) = IsMoved old new (old_tables_of old.now.trees)
Adds old new (Err e) = KeepsCommit old new

-- the tables are those of version 2
abbrev pub Moves : {X : Type 0} → State → State → Result X Error → Type 0
Moves old new (Ok x) = IsMoved old new (upgraded (old_tables_of old.now.trees))
Moves old new (Err e) = KeepsCommit old new

-- the tables are committed
pub record IsUpgraded (old new : State) : Type 0 where
  pub is_open : IsTrue new.is_open
  pub outside : new.in_transaction ≡ false
  pub station : IsStation new.now
  pub tables : tables_of new.now.trees ≡ upgraded (old_tables_of old.now.trees)
  pub settled : new.committed ≡ new.now

abbrev pub Upgrades : {X : Type 0} → State → State → Result X Error → Type 0
Upgrades old new (Ok x) = IsUpgraded old new
Upgrades old new (Err e) = KeepsCommit old new

-- the trees are of version 2, with the upgraded tables
pub record MeansUpgraded (old db : Trees) : Type 0 where
  pub own : IsOwn db
  pub tables : tables_of db ≡ upgraded (old_tables_of old)
