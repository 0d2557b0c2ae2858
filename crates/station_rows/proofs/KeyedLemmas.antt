-- What the statements do to a table whose key is made of columns, whatever the table.
use Rattle.station_rows.proofs.Common.{Output, ap, unfiltered, AllByRecursion, AreEntries, Bool, Compares, Database, Delete, Edits, Executes, FinMap, Insert, Int, IsAntisymmetric, IsInside, IsMap, IsPlaced, IsStation, IsTotalOrder, Key, List, Means, None, Ok, Option, Ordering, Row, Select, Shows, Some, State, Tables, Term, Trees, Update, Values, [], adjust, asks, col, cond, delete_ran, deleted_at, entries, eq_by_cmp, eval_all, filter, from_entries, get, holds, insert, insert_ran, inserted, length, list_all, map, map_of, not, one_table, option_map, option_to_list, output, output_cmp, plain, pos, reads_as, refl, remove, row_shown, rows_in_order, station_schema, subst, sym, tables_of, true, turn_eq, update_ran, updated_at, value_rows, ℕ, ℤ, ◌&&◌, ◌++◌, ◌+◌, ◌/◌, ◌∙◌, ◌∷◌, ◌≡◌, ◌≢◌}
use Rattle.std.proofs.lemmas.List.{append-nil}
use Rattle.sqlite.specs.Cast.{cast_row}
use Rattle.sqlite.specs.Edit.{edit_of, next_rowid}
use Rattle.sqlite.specs.Rowids.TheVariants.{Chosen}
use Rattle.sqlite.specs.Table.{Table}
use Rattle.sqlite_schema.specs.Rules.{Keeps, clashes}
use Rattle.sqlite_schema.specs.declared.schema.Constraint.TheVariants.{Unique}
use Rattle.station_rows.proofs.Terms.{IsQuery, Lists, insert_terms, key_terms, update_terms}

-- its place in the schema, its rows as entries of a map, and that map
pub record KeyedTable (K V : Type 0) : Type 0 where
  pub place : ℕ
  pub table : Table
  pub key_width : ℕ  -- so many of its first columns are the key
  pub width : ℕ
  pub cmp : K → K → Ordering
  pub key_row : K → Row
  pub to_row : K × V → Row
  pub from_row : Row → K × V
  pub map_in : Tables → FinMap cmp V
  pub with_map : Tables → FinMap cmp V → Tables

module _ {K V : Type 0} (d : KeyedTable K V) where
  -- what is to be shown of each table, once
  pub record IsTableOf : Type 1 where
    pub total : IsTotalOrder d.cmp
    pub same : IsAntisymmetric d.cmp
    pub placed : IsPlaced station_schema d.place d.table
    pub typed : (db : Database) → IsStation db → AreEntries d.cmp d.to_row d.from_row (db.trees d.table.tree)
    pub is_read : (db : Trees) → d.map_in (tables_of db) ≡ from_entries (map d.from_row (db d.table.tree))
    pub places : List ℕ
    pub compares : Compares d.cmp total d.to_row places
    pub unique : (db : Trees) → Keeps Unique station_schema db → AllByRecursion (λ row. (not (clashes plain places (db d.table.tree) row) && true) ≡ true) (db d.table.tree)
    pub tests : (k : K) (more : Row) (n : ℤ) (e : K × V) → list_all (holds ((d.key_row k ++ more) ∷ (Int n ∷ d.to_row e) ∷ [])) (key_terms d.key_width) ≡ eq_by_cmp d.cmp e.0 k
    pub begins : (e : K × V) → (rest : Row) × (d.to_row e ≡ d.key_row e.0 ++ rest)
    pub casts : (n : ℤ) (e : K × V) → cast_row d.table (Int n ∷ d.to_row e) ≡ Int n ∷ d.to_row e
    pub news : (db : Trees) (e : K × V)
        → (edit_of db d.table [] Chosen 0 (value_rows (d.to_row e) (d.width + 1) (length (insert_terms d.width) / (d.width + 1)) (insert_terms d.width))).news ≡ (Int (next_rowid (db d.table.tree)) ∷ d.to_row e) ∷ []
    pub updated : (e : K × V) (n : ℤ) (x : K × V) → eval_all (update_terms d.key_width d.width) (d.to_row e ∷ (Int n ∷ d.to_row x) ∷ []) ≡ Int n ∷ Int n ∷ d.to_row (x.0, e.1)
    pub edits : (old new : State) → IsInside old → new.now.schema ≡ station_schema → AllByRecursion (λ (t : Table). t.tree ≢ d.table.tree → new.now.trees t.tree ≡ old.now.trees t.tree) station_schema.tables
        → Shows old new new.now (cond old.in_transaction old.committed new.now) old.in_transaction → (change : FinMap d.cmp V → FinMap d.cmp V) → IsMap d.cmp d.to_row (new.now.trees d.table.tree) (change (d.map_in (tables_of old.now.trees)))
        → Edits old new (λ tables. d.with_map tables (change (d.map_in tables)))

  module _ (is : IsTableOf) where
    pub there : (db : Database) → IsStation db → IsMap d.cmp d.to_row (db.trees d.table.tree) (d.map_in (tables_of db.trees))
    there db was = subst (IsMap d.cmp d.to_row (db.trees d.table.tree)) (sym (is.is_read db.trees)) (map_of d.cmp is.total d.to_row d.from_row (db.trees d.table.tree) (is.typed db was))

    -- the parameters are a key alone, or a row
    tests_key : (k : K) (n : ℤ) (e : K × V) → list_all (holds (d.key_row k ∷ (Int n ∷ d.to_row e) ∷ [])) (key_terms d.key_width) ≡ eq_by_cmp d.cmp k e.0
    tests_key k n e = subst (λ p. list_all (holds (p ∷ (Int n ∷ d.to_row e) ∷ [])) (key_terms d.key_width) ≡ eq_by_cmp d.cmp e.0 k) (append-nil (d.key_row k)) (is.tests k [] n e) ∙ turn_eq d.cmp is.total e.0 k

    tests_row : (new : K × V) (n : ℤ) (e : K × V) → list_all (holds (d.to_row new ∷ (Int n ∷ d.to_row e) ∷ [])) (key_terms d.key_width) ≡ eq_by_cmp d.cmp new.0 e.0
    tests_row new n e =
        subst (λ p. list_all (holds (p ∷ (Int n ∷ d.to_row e) ∷ [])) (key_terms d.key_width) ≡ eq_by_cmp d.cmp e.0 new.0) (sym (is.begins new).1) (is.tests new.0 (is.begins new).0 n e) ∙ turn_eq d.cmp is.total e.0 new.0

    module _ (sql : List ℕ) where
      pub inserts : Means station_schema sql (Insert d.place (Values (insert_terms d.width) (d.width + 1))) → (old new : State) (e : K × V) (count : ℕ) → IsInside old → Executes sql (d.to_row e) old new (Ok count)
          → Edits old new (λ tables. d.with_map tables (insert (d.map_in tables) e.0 e.1))
      inserts means old new e count inside h =
          let ran = insert_ran station_schema old new inside.station.schema d.place d.table is.placed sql (d.to_row e) count h (insert_terms d.width) (d.width + 1) means in
          let put = inserted d.cmp is.total d.to_row is.same station_schema _ d.table old.now.trees new.now.trees (d.map_in (tables_of old.now.trees)) (there old.now inside.station) is.places is.compares _ e (is.news old.now.trees e) ran.applies
          (is.unique new.now.trees (ran.applies.fits.rules Unique (λ e. cc))) in
          is.edits old new inside ran.kept ran.applies.tables ran.shown (λ m. insert m e.0 e.1) put.now

      pub updates : Means station_schema sql (Update d.place (asks (one_table d.table.tree (key_terms d.key_width) (update_terms d.key_width d.width) []))) → (old new : State) (e : K × V) (count : ℕ) → IsInside old → Executes sql (d.to_row e) old new (Ok count)
          → Edits old new (λ tables. d.with_map tables (adjust (d.map_in tables) e.0 (λ _. e.1)))
      updates means old new e count inside h =
          let ran = update_ran station_schema old new inside.station.schema d.place d.table is.placed sql (d.to_row e) count h (asks (one_table d.table.tree (key_terms d.key_width) (update_terms d.key_width d.width) [])) means in
          let now = updated_at d.cmp is.total d.to_row is.same station_schema _ d.table old.now.trees new.now.trees (d.map_in (tables_of old.now.trees)) (there old.now inside.station) (key_terms d.key_width) (update_terms d.key_width d.width) (d.to_row e)
          (λ x. eq_by_cmp d.cmp e.0 x.0) (tests_row e) (λ n x. Int n ∷ Int n ∷ d.to_row (x.0, e.1)) (is.updated e) (λ _ _. refl) (λ _. e.1) (λ n x. is.casts n (x.0, e.1)) e.0 (λ _. refl) ran.0 ran.1 ran.2.applies in
          is.edits old new inside ran.2.kept ran.2.applies.tables ran.2.shown (λ m. adjust m e.0 (λ _. e.1)) now

      pub deletes : Means station_schema sql (Delete d.place (asks (one_table d.table.tree (key_terms d.key_width) (col 1 0 ∷ []) []))) → (old new : State) (k : K) (count : ℕ) → IsInside old → Executes sql (d.key_row k) old new (Ok count)
          → Edits old new (λ tables. d.with_map tables (remove (d.map_in tables) k))
      deletes means old new k count inside h =
          let ran = delete_ran station_schema old new inside.station.schema d.place d.table is.placed sql (d.key_row k) count h (asks (one_table d.table.tree (key_terms d.key_width) (col 1 0 ∷ []) [])) means in
          let now = deleted_at d.cmp is.total d.to_row is.same station_schema _ d.table old.now.trees new.now.trees (d.map_in (tables_of old.now.trees)) (there old.now inside.station) (key_terms d.key_width) (col 1 0 ∷ []) (d.key_row k)
          (λ x. eq_by_cmp d.cmp k x.0) (tests_key k) (λ _ _. refl) k (λ _. refl) ran.0 ran.1 ran.2.applies in
          is.edits old new inside ran.2.kept ran.2.applies.tables ran.2.shown (λ m. remove m k) now

    -- WHERE is the key
    pub gets : {sql : List ℕ} {project : List Term} (query : IsQuery sql (one_table d.table.tree (key_terms d.key_width) project [])) (show : K × V → Row) → ((params : Row) (n : ℤ) (e : K × V) → eval_all project (params ∷ (Int n ∷ d.to_row e) ∷ []) ≡ show e)
        → (k : K) → Lists query (d.key_row k) show (λ tables. option_to_list (option_map (λ v. (k, v)) (get (d.map_in tables) k)))
    gets {project = project} query show shows k = record {
      shows = λ old new rows was h.
          let read = reads_as _ (d.key_row k) old new station_schema was.schema (Select (asks (one_table d.table.tree (key_terms d.key_width) project [])) query.names) query.asks.0 query.asks.1 query.asks.2 rows h in
          row_shown d.cmp is.total d.to_row old.now.schema old.now.trees d.table.tree (d.map_in (tables_of old.now.trees)) (there old.now was) (d.key_row k) (key_terms d.key_width) project (λ x. eq_by_cmp d.cmp k x.0) (tests_key k) show (shows (d.key_row k)) is.same k (λ _. refl) rows read;
    }

    -- WHERE is the key, and it isn't shown
    pub gets_value : {sql : List ℕ} {project : List Term} (query : IsQuery sql (one_table d.table.tree (key_terms d.key_width) project [])) (show : V → Row) → ((params : Row) (n : ℤ) (e : K × V) → eval_all project (params ∷ (Int n ∷ d.to_row e) ∷ []) ≡ show e.1)
        → (k : K) → Lists query (d.key_row k) show (λ tables. option_to_list (get (d.map_in tables) k))
    gets_value query show shows k = record { shows = λ old new rows was h. (gets query (λ e. show e.1) shows k).shows old new rows was h ∙ shown_at (get (d.map_in (tables_of old.now.trees)) k) }
      where
        shown_at : (o : Option V) → map (λ (e : K × V). show e.1) (option_to_list (option_map (λ v. (k, v)) o)) ≡ map show (option_to_list o)
        shown_at None = refl
        shown_at (Some v) = refl

    module _ {sql : List ℕ} {filters project : List Term} {order : List (Term × Key)} (query : IsQuery sql (one_table d.table.tree filters project order)) where
      abbrev shown : Row → K × V → Output
      shown params e = output (one_table d.table.tree filters project order) (params ∷ (Int (pos 0) ∷ d.to_row e) ∷ [])

      -- ORDER BY orders the rows that pass as their keys do
      pub lists : (params : Row) (p : K × V → Bool) → ((n : ℤ) (e : K × V) → list_all (holds (params ∷ (Int n ∷ d.to_row e) ∷ [])) filters ≡ p e) → (show : K × V → Row) → ((n : ℤ) (e : K × V) → eval_all project (params ∷ (Int n ∷ d.to_row e) ∷ []) ≡ show e)
          → ((n : ℤ) (e : K × V) → output (one_table d.table.tree filters project order) (params ∷ (Int n ∷ d.to_row e) ∷ []) ≡ shown params e)
          → ((a b : K × V) → p a ≡ true → p b ≡ true → output_cmp (one_table d.table.tree filters project order) (shown params a) (shown params b) ≡ d.cmp a.0 b.0)
          → Lists query params show (λ tables. filter p (entries (d.map_in tables)))
      lists params p tests show shows unseen agrees = record {
        shows = λ old new rows was h.
            let read = reads_as sql params old new station_schema was.schema (Select (asks (one_table d.table.tree filters project order)) query.names) query.asks.0 query.asks.1 query.asks.2 rows h in
            rows_in_order d.cmp is.total d.to_row old.now.schema old.now.trees d.table.tree (d.map_in (tables_of old.now.trees)) (there old.now was) params filters project p tests show shows order unseen agrees rows read;
      }

    -- no WHERE, and ORDER BY the key
    pub lists_all : {sql : List ℕ} {project : List Term} {order : List (Term × Key)} (query : IsQuery sql (one_table d.table.tree [] project order)) → ((n : ℤ) (e : K × V) → eval_all project ([] ∷ (Int n ∷ d.to_row e) ∷ []) ≡ d.to_row e)
        → ((n : ℤ) (e : K × V) → output (one_table d.table.tree [] project order) ([] ∷ (Int n ∷ d.to_row e) ∷ []) ≡ shown query [] e)
        → ((a b : K × V) → output_cmp (one_table d.table.tree [] project order) (shown query [] a) (shown query [] b) ≡ d.cmp a.0 b.0) → Lists query [] d.to_row (λ tables. entries (d.map_in tables))
    lists_all query shows unseen agrees = record {
      shows = λ old new rows was h.
          (lists query [] (λ _. true) (λ _ _. refl) d.to_row shows unseen (λ a b _ _. agrees a b)).shows old new rows was h ∙ ap (map d.to_row) (unfiltered (entries (d.map_in (tables_of old.now.trees))) refl);
    }
