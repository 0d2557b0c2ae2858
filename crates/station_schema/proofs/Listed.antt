-- What each kind of statement does to a table whose key is the rowid, whatever the table.
use Rattle.station_schema.proofs.Common.{AllByRecursion, Answers, Applies, AreListed, Bool, Given, Int, IsKeyedBy, IsKeyedBy-update_where, Keys, List, None, Null, Option, Row, Schema, Some, Table, Term, Trees, [], all_weaker, answer_by_keys, ap, ap₂, arith, cast_row, cond, drop, edit_of, eval_all, false, filter, filter_none, get_by, holds, id_in, ids_of, int_eq, ints, last_key, length, list_all, map, map-id, option_to_list, overlay, refl, rowid, subst, sym, true, update_where, value_cmp, value_cmp-Int, ℕ, ℤ, ◌<ℤ◌, ◌∙◌, ◌∷◌, ◌≡◌, ◌≤◌}
use Rattle.station_schema.proofs.Keyed.{one_table, few_rows, changed, seen}
use Rattle.station_schema.proofs.AnyTexts.{by_column}

module _ {X : Type 0} (key : X → ℤ) (to_row : X → Row) (keyed : (x : X) → rowid (to_row x) ≡ Int (key x)) where
  only_first : (b : Bool) (x : X) (xs : List X) (id : ℤ) → int_eq (key x) id ≡ b → AllByRecursion (λ y. key x <ℤ key y) xs → filter (λ y. int_eq (key y) id) xs ≡ option_to_list (get_by key xs id)
      → cond b (x ∷ filter (λ y. int_eq (key y) id) xs) (filter (λ y. int_eq (key y) id) xs) ≡ option_to_list (cond b (Some x) (get_by key xs id))
  only_first true x xs id e above more = ap (λ l. x ∷ l) (filter_none _ xs (all_weaker _ (λ y. int_eq (key y) id ≡ false) (λ y h. grind (arith, ints)) xs above))
  only_first false x xs id e above more = more

  filter_key : (xs : List X) (id : ℤ) → IsKeyedBy key xs → filter (λ x. int_eq (key x) id) xs ≡ option_to_list (get_by key xs id)
  filter_key [] id up = refl
  filter_key (x ∷ xs) id up = only_first (int_eq (key x) id) x xs id refl up.0 (filter_key xs id up.1)

  one_at_most : (o : Option X) → length (option_to_list o) ≤ 1
  one_at_most None = omega arith
  one_at_most (Some x) = omega arith

  few : (xs : List X) (id : ℤ) → IsKeyedBy key xs → length (filter (λ x. int_eq (key x) id) xs) ≤ 1
  few xs id up = subst (λ l. length l ≤ 1) (sym (filter_key xs id up)) (one_at_most (get_by key xs id))

  module _ (from_row : Row → X) (schema : Schema) (db : Trees) (t : ℕ) (was : AreListed key to_row from_row (db t)) (params : Row) (filters project : List Term) where
    abbrev xs : List X
    xs = map from_row (db t)

    -- WHERE is the key
    pub row_at : (id : ℤ) → ((x : X) → list_all (holds (params ∷ to_row x ∷ [])) filters ≡ int_eq (key x) id) → (show : X → Row) → ((x : X) → eval_all project (params ∷ to_row x ∷ []) ≡ show x)
        → (rows : List Row) → Answers (record { schema = schema; trees = db }) (record { lets = []; body = one_table t filters project [] }) params rows → rows ≡ map show (option_to_list (get_by key xs id))
    row_at id tests show shows rows h =
        few_rows key to_row keyed schema db t xs was.rows was.keyed params filters project (λ x. int_eq (key x) id) tests show shows (few xs id was.keyed) rows h ∙ ap (map show) (filter_key xs id was.keyed)

    -- ORDER BY the key
    pub rows_by_key : (p : X → Bool) → ((x : X) → list_all (holds (params ∷ to_row x ∷ [])) filters ≡ p x) → (show : X → Row) → ((x : X) → eval_all project (params ∷ to_row x ∷ []) ≡ show x)
        → (rows : List Row) → Answers (record { schema = schema; trees = db }) (record { lets = []; body = one_table t filters project (by_column 0 ∷ []) }) params rows → rows ≡ map show (filter p xs)
    rows_by_key p tests show shows rows h =
        sym (map-id rows)
        ∙ answer_by_keys (one_table t filters project (by_column 0 ∷ [])) (overlay db []) params (seen key to_row keyed schema db t xs was.rows was.keyed params filters project p tests show shows) p tests (λ r. r) show shows refl refl
        (λ a b. last_key (ap₂ value_cmp (keyed a) (keyed b) ∙ value_cmp-Int (key a) (key b))) rows (h.answer Null)

  -- UPDATE of the row with a key
  module _ (from_row : Row → X) (schema : Schema) (keys : Keys) (table : Table) (db next : Trees) (was : AreListed key to_row from_row (db table.tree)) (params : Row) (filters project : List Term) where
    pub record Changed (id : ℤ) (f : X → X) : Type 0 where
      pub rows : next table.tree ≡ map to_row (update_where (λ x. int_eq (key x) id) f (map from_row (db table.tree)))
      pub up : IsKeyedBy key (update_where (λ x. int_eq (key x) id) f (map from_row (db table.tree)))

    pub changed_at : (id : ℤ) → ((x : X) → list_all (holds (params ∷ to_row x ∷ [])) filters ≡ int_eq (key x) id) → (show : X → Row) → ((x : X) → eval_all project (params ∷ to_row x ∷ []) ≡ show x)
        → ((x : X) → id_in (rowid (show x)) ≡ key x) → (f : X → X) → ((x : X) → key (f x) ≡ key x) → ((x : X) → cast_row table (drop 1 (show x)) ≡ to_row (f x))
        → (rows : List Row) → Answers (record { schema = schema; trees = db }) (record { lets = []; body = one_table table.tree filters project [] }) params rows
        → Applies schema keys db (edit_of db table (ids_of rows) Given 1 rows) next → Changed id f
    changed_at id tests show shows ids f keeps casts rows asked h =
        let all = map from_row (db table.tree) in
        let given = few_rows key to_row keyed schema db table.tree all was.rows was.keyed params filters project (λ x. int_eq (key x) id) tests show shows (few all id was.keyed) rows asked in
        record {
          rows = changed key to_row keyed schema keys table db next all was.rows was.keyed (λ x. int_eq (key x) id) show ids f keeps casts rows given h;
          up = IsKeyedBy-update_where key (λ x. int_eq (key x) id) f keeps all was.keyed;
        }
