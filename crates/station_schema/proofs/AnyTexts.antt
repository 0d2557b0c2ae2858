-- What texts mean under a schema.
use Rattle.station_schema.proofs.Common.{Begin, Command, Commit, CreateIndex, CreateTable, Index, IsPlain, Key, List, Ok, Program, Query, Rollback, Schema, Select, Some, Table, Term, [], codes, col, command_of, false, reads_listing, refl, slice_get, statement_of, ℕ, ◌≡◌}
use Rattle.sqlite.specs.Collation.TheVariants.{Binary}
use Rattle.sqlite_tied.specs.Compute.{everything}
use Rattle.sqlite.specs.Listing.{understood}
use Rattle.sqlite.specs.Compile.{table_defined_by, index_defined_by}

abbrev pub asks : Query → Program
asks q = record { lets = []; body = q }

abbrev pub by_column : ℕ → Term × Key
by_column n = (col 1 n, record { collation = Binary; descending = false })

-- a statement that writes, or ends a transaction
abbrev pub Means : Schema → List ℕ → Command → Type 0
Means schema sql command = (command_of (understood schema sql) ≡ command) × IsPlain (understood schema sql)

-- a statement that reads
abbrev pub Asks : Schema → List ℕ → Query → List (List ℕ) → Type 0
Asks schema sql query names =
    (command_of (understood schema sql) ≡ Select (asks query) names) × IsPlain (understood schema sql) × (reads_listing schema sql ≡ false)

-- ---- transactions, under any schema

abbrev pub begin_text : List ℕ
begin_text = codes "BEGIN"

abbrev pub commit_text : List ℕ
commit_text = codes "COMMIT"

abbrev pub rollback_text : List ℕ
rollback_text = codes "ROLLBACK"

pub begin_is : (schema : Schema) → (command_of (understood schema begin_text) ≡ Begin) × IsPlain (understood schema begin_text)
unfolding understood everything
begin_is schema = (refl, (refl, refl))

pub commit_is : (schema : Schema) → (command_of (understood schema commit_text) ≡ Commit) × IsPlain (understood schema commit_text)
unfolding understood everything
commit_is schema = (refl, (refl, refl))

pub rollback_is : (schema : Schema) → (command_of (understood schema rollback_text) ≡ Rollback) × IsPlain (understood schema rollback_text)
unfolding understood everything
rollback_is schema = (refl, (refl, refl))

-- ---- CREATE

-- the text makes one schema of another
pub record IsCreate (sql : List ℕ) (schema : Schema) (table : Table) : Type 0 where
  pub command : command_of (understood schema sql) ≡ CreateTable
  pub plain : IsPlain (understood schema sql)
  pub whole : statement_of sql (understood schema sql) ≡ sql
  pub defined : table_defined_by sql ≡ Ok table

-- the text gives a table an index
pub record IsIndex (sql : List ℕ) (schema : Schema) (at : ℕ) (table : Table) (index : Index) : Type 0 where
  pub command : command_of (understood schema sql) ≡ CreateIndex at
  pub plain : IsPlain (understood schema sql)
  pub whole : statement_of sql (understood schema sql) ≡ sql
  pub there : slice_get schema.tables at ≡ Some table
  pub defined : index_defined_by table sql ≡ Ok index
