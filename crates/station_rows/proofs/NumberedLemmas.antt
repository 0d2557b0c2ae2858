-- What a query shows of a table whose key is the rowid, whatever the table.
use Rattle.station_rows.proofs.Common.{Bool, Database, Int, IsStation, List, Query, Row, Select, Tables, Term, Trees, [], ap, asks, by_column, eval_all, filter, get_by, holds, int_eq, list_all, map, one_table, option_to_list, reads_as, refl, row_at, rows_by_key, station_schema, tables_of, true, unfiltered, ℕ, ℤ, ◌∙◌, ◌∷◌, ◌≡◌}
use Rattle.sqlite.specs.Tree.{rowid}
use Rattle.station_schema.specs.Tables.{AreListed}
use Rattle.station_rows.proofs.Terms.{IsQuery, Lists}

module _ {X : Type 0} {key : X → ℤ} {to_row : X → Row} {from_row : Row → X} {t : ℕ} (typed : (db : Database) → IsStation db → AreListed key to_row from_row (db.trees t)) (keyed : (x : X) → rowid (to_row x) ≡ Int (key x))
    (list_in : Tables → List X) (is_read : (db : Trees) → map from_row (db t) ≡ list_in (tables_of db)) {sql : List ℕ} {filters project : List Term} where
  -- ORDER BY the key
  pub lists : (query : IsQuery sql (one_table t filters project (by_column 0 ∷ []))) (params : Row) (p : X → Bool) → ((x : X) → list_all (holds (params ∷ to_row x ∷ [])) filters ≡ p x) → (show : X → Row) → ((x : X) → eval_all project (params ∷ to_row x ∷ []) ≡ show x)
      → Lists query params show (λ tables. filter p (list_in tables))
  lists query params p tests show shows = record {
    shows = λ old new rows was h.
        let read = reads_as sql params old new station_schema was.schema (Select (asks (one_table t filters project (by_column 0 ∷ []))) query.names) query.asks.0 query.asks.1 query.asks.2 rows h in
        rows_by_key key to_row keyed from_row old.now.schema old.now.trees t (typed old.now was) params filters project p tests show shows rows read ∙ ap (λ xs. map show (filter p xs)) (is_read old.now.trees);
  }

  -- WHERE is the key
  pub gets : (query : IsQuery sql (one_table t filters project [])) (params : Row) (id : ℤ) → ((x : X) → list_all (holds (params ∷ to_row x ∷ [])) filters ≡ int_eq (key x) id) → (show : X → Row) → ((x : X) → eval_all project (params ∷ to_row x ∷ []) ≡ show x)
      → Lists query params show (λ tables. option_to_list (get_by key (list_in tables) id))
  gets query params id tests show shows = record {
    shows = λ old new rows was h.
        let read = reads_as sql params old new station_schema was.schema (Select (asks (one_table t filters project [])) query.names) query.asks.0 query.asks.1 query.asks.2 rows h in
        row_at key to_row keyed from_row old.now.schema old.now.trees t (typed old.now was) params filters project id tests show shows rows read ∙ ap (λ xs. map show (option_to_list (get_by key xs id))) (is_read old.now.trees);
  }

-- all rows, ORDER BY the key
pub all_listed : {X : Type 0} {sql : List ℕ} {query : Query} {is : IsQuery sql query} {params : Row} {show : X → Row} {list_in : Tables → List X} → Lists is params show (λ tables. filter (λ _. true) (list_in tables)) → Lists is params show list_in
all_listed {show = show} {list_in = list_in} it = record { shows = λ old new rows was h. it.shows old new rows was h ∙ ap (map show) (unfiltered (list_in (tables_of old.now.trees)) refl) }
