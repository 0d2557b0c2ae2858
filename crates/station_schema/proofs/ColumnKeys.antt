-- What each kind of statement does to a table whose key is made of columns, whatever the table.
use Rattle.station_schema.proofs.Common.{IsPermutation-refl, Query, lit, negsuc, AllByRecursion, Answers, Applies, AreEntries, Bool, Chosen, FinMap, Given, Int, IsAntisymmetric, IsAscending, IsKeyedBy, IsKeyedBy-delete_where, IsKeyedBy-insert_by, IsKeyedBy-update_where, IsPermutation, IsPermutation-filter, IsPermutation-map, IsPermutation-sym, IsPermutation-trans, IsTotalOrder, Key, Keys, Less, List, Ne, None, Null, Ordering, Output, Row, Schema, Table, Term, Trees, [], above_all, adjust, agree, all_both, all_map, all_unmap, all_weaker, ap, ap₂, arith, ascending-append, ascending-filter, ascending-map, ascending_weaker, at_end, at_ints, cast_row, clashes, cond, differ, drop, edit_of, entries, eq_by_cmp, eval_all, false, filter, filter-map, filter_same, find, from_entries, from_entries_push, get, get-from_entries, holds, id_in, ids_of, insert, insert_by, int_eq, ints, last_table, length, length-map, length_permutation, list_all, map, map-map, map_back, map_same, matches_are, next_key, next_rowid, none_from_any, not, numbered, numbered_in, option_map, option_to_list, output, output_cmp, overlay, plain, pos, refl, remove, rowid, sorted_unique, subst, sym, true, update_where, ℕ, ℤ, ◌&&◌, ◌++◌, ◌+ℤ◌, ◌<ℤ◌, ◌∙◌, ◌∷◌, ◌≡◌, ◌≤◌}
use Rattle.sqlite.specs.Query.{as_count, limited}
use Rattle.sqlite.specs.Term.{eval}
use Rattle.sqlite_sql.proofs.QueryLemmas.{output_cmp_total}
use Rattle.sqlite_keyed.proofs.SliceLemmas.{insert_next}
use Rattle.station_schema.proofs.Keyed.{one_table, no_overlay, any_rows, few_rows, puts, removed_any, changed, fold-map}
use Rattle.station_schema.proofs.Maps.{all_passed, ascending_where, same_one, map_one, entries_of, entries_rise, entry_at, removed_is, found_none, at_most_one, adjusted_is, changes_at}

abbrev pub number : {E : Type 0} → ℤ × E → ℤ
number n = n.0

abbrev pub entry : {E : Type 0} → ℤ × E → E
entry n = n.1

-- the rows of a tree are the entries of the map, in some order and each once
pub record IsMap {K V : Type 0} (R : K → K → Ordering) (to_row : K × V → Row) (stored : List Row) (m : FinMap R V) : Type 0 where
  pub raw : List (ℤ × (K × V))  -- with the rowids, as they lie in the tree
  pub rows : stored ≡ map (numbered to_row) raw
  pub keyed : IsKeyedBy (λ n. n.0) raw
  pub apart : IsAscending (λ a b. eq_by_cmp R a.1.0 b.1.0 ≡ false) raw
  pub is : m ≡ from_entries (map (λ n. n.1) raw)

pub first_false : (e d : Bool) → (e && not d) ≡ false → d ≡ false → e ≡ false
first_false true true h k = k
first_false true false h k = h
first_false false d h k = refl

last_of : {X : Type 0} (P : X → Type 0) (xs : List X) (x : X) → AllByRecursion P (xs ++ x ∷ []) → P x
last_of P [] x all = all.0
last_of P (y ∷ xs) x all = last_of P xs x all.1

pub front_of : {X : Type 0} (P : X → Type 0) (xs : List X) (x : X) → AllByRecursion P (xs ++ x ∷ []) → AllByRecursion P xs
front_of P [] x all = tt
front_of P (y ∷ xs) x all = (all.0, front_of P xs x all.1)

pub no_clash : (b : Bool) → (not b && true) ≡ true → b ≡ false
no_clash true h = sym h
no_clash false h = refl

module _ {K V : Type 0} (R : K → K → Ordering) (total : IsTotalOrder R) (to_row : K × V → Row) where
  -- the map of such rows, and back
  pub map_of : (from_row : Row → K × V) (stored : List Row) → AreEntries R to_row from_row stored → IsMap R to_row stored (from_entries (map from_row stored))
  map_of from_row stored h = record {
    raw = map (numbered_in from_row) stored;
    rows = h.rows;
    keyed = h.keyed;
    apart = h.apart;
    is = ap from_entries (sym (map-map entry (numbered_in from_row) stored));
  }

  pub entries_by : (from_row : Row → K × V) → ((n : ℤ × (K × V)) → from_row (numbered to_row n) ≡ n.1) → (stored : List Row) (m : FinMap R V) → IsMap R to_row stored m → AreEntries R to_row from_row stored
  entries_by from_row back stored m now =
      let raw : map (numbered_in from_row) stored ≡ now.raw = ap (map (numbered_in from_row)) now.rows ∙ map_back (numbered to_row) (numbered_in from_row) (λ n. ap (λ e. (n.0, e)) (back n)) now.raw in
      record {
        rows = now.rows ∙ ap (map (numbered to_row)) (sym raw);
        keyed = subst (IsKeyedBy (λ n. n.0)) (sym raw) now.keyed;
        apart = subst (IsAscending (λ a b. eq_by_cmp R a.1.0 b.1.0 ≡ false)) (sym raw) now.apart;
      }

  -- the map, from the rows that are stored
  pub reads_back : (from_row : Row → K × V) → ((n : ℤ × (K × V)) → from_row (numbered to_row n) ≡ n.1) → (stored : List Row) (m : FinMap R V) → IsMap R to_row stored m → from_entries (map from_row stored) ≡ m
  reads_back from_row back stored m now =
      ap (λ rows. from_entries (map from_row rows)) now.rows ∙ ap from_entries (map-map from_row (numbered to_row) now.raw ∙ map_same _ entry back now.raw) ∙ sym now.is

  -- the entries of the map are the rows, in some order
  pub same_rows : (stored : List Row) (m : FinMap R V) (was : IsMap R to_row stored m) → IsPermutation (map entry was.raw) (entries m)
  same_rows stored m was =
      subst (λ l. IsPermutation (map entry was.raw) (entries l)) (sym was.is) (entries_of R total (map entry was.raw) (ascending-map (λ a b. eq_by_cmp R a.0 b.0 ≡ false) entry was.raw was.apart))

  -- ---- SELECT

  module _ (schema : Schema) (db : Trees) (t : ℕ) (m : FinMap R V) (was : IsMap R to_row (db t) m) (params : Row) (filters project : List Term)
      (p : K × V → Bool) (tests : (n : ℤ) (e : K × V) → list_all (holds (params ∷ (Int n ∷ to_row e) ∷ [])) filters ≡ p e)
      (show : K × V → Row) (shows : (n : ℤ) (e : K × V) → eval_all project (params ∷ (Int n ∷ to_row e) ∷ []) ≡ show e) where
    kept_rows : IsPermutation (filter p (map entry was.raw)) (filter p (entries m))
    kept_rows = IsPermutation-filter p _ _ (same_rows (db t) m was)

    -- no ORDER BY: the rows in some order
    pub rows_shown : (rows : List Row) → Answers (record { schema = schema; trees = db }) (record { lets = []; body = one_table t filters project [] }) params rows → IsPermutation (map show (filter p (entries m))) rows
    rows_shown rows h =
        let given = any_rows number (numbered to_row) (λ _. refl) schema db t was.raw was.rows was.keyed params filters project (λ n. p n.1) (λ n. tests n.0 n.1) (λ n. show n.1) (λ n. shows n.0 n.1) rows h in
        let moved : map (λ n. show n.1) (filter (λ n. p n.1) was.raw) ≡ map show (filter p (map entry was.raw)) = sym (map-map show entry (filter (λ n. p n.1) was.raw)) ∙ ap (map show) (sym (filter-map p entry was.raw)) in
        IsPermutation-trans _ _ _ (IsPermutation-sym _ _ (IsPermutation-map show _ _ kept_rows)) (subst (λ l. IsPermutation l rows) moved given)

    -- WHERE is the key
    pub row_shown : IsAntisymmetric R → (k : K) → ((e : K × V) → p e ≡ eq_by_cmp R k e.0) → (rows : List Row)
        → Answers (record { schema = schema; trees = db }) (record { lets = []; body = one_table t filters project [] }) params rows → rows ≡ map show (option_to_list (option_map (λ v. (k, v)) (get m k)))
    row_shown same k at rows h =
        let found : map show (filter p (entries m)) ≡ option_to_list (option_map show (option_map (λ v. (k, v)) (get m k))) =
        ap (map show) (filter_same p _ at (entries m) ∙ entry_at R total same m k) ∙ map_one show _ in
        same_one _ rows (subst (λ l. IsPermutation l rows) found (rows_shown rows h)) ∙ sym (map_one show _)

    abbrev limited_by : Term → List (Term × Key) → Query
    limited_by limit order = record (one_table t filters project order) { limit = limit }

    abbrev out : Term → List (Term × Key) → K × V → Output
    out limit order e = output (limited_by limit order) (params ∷ (Int (pos 0) ∷ to_row e) ∷ [])

    -- ORDER BY and LIMIT: the rows that pass, as a list that rises under ORDER BY
    pub rows_limited : (limit : Term) (order : List (Term × Key)) → ((n : ℤ) (e : K × V) → output (limited_by limit order) (params ∷ (Int n ∷ to_row e) ∷ []) ≡ out limit order e) → (wanted : List (K × V)) → IsPermutation (filter p (entries m)) wanted
        → IsAscending (λ a b. output_cmp (limited_by limit order) (out limit order a) (out limit order b) ≡ Less) wanted
        → (rows : List Row) → Answers (record { schema = schema; trees = db }) (record { lets = []; body = limited_by limit order }) params rows → rows ≡ limited (as_count (eval limit (params ∷ []))) (map show wanted)
    rows_limited limit order unseen wanted moved rises rows h =
        let q = limited_by limit order in
        let f = out limit order in
        let source = last_table (overlay db []) t (numbered to_row) number was.raw (no_overlay db t ∙ was.rows) was.keyed (at_end (overlay db [])) in
        let a = h.answer Null in
        let kept : a.kept ≡ map f (filter p (map entry was.raw)) =
        a.distinct ∙ ap (map (output q)) (a.grouped ∙ matches_are q (overlay db []) params source (λ n. p n.1) (λ n. tests n.0 n.1))
        ∙ map-map (output q) (λ (n : ℤ × (K × V)). params ∷ numbered to_row n ∷ []) (filter (λ n. p n.1) was.raw)
        ∙ map_same _ (λ n. f n.1) (λ n. unseen n.0 n.1) (filter (λ n. p n.1) was.raw)
        ∙ sym (map-map f entry (filter (λ n. p n.1) was.raw)) ∙ ap (map f) (sym (filter-map p entry was.raw)) in
        let same : IsPermutation (map f wanted) a.ordered =
        IsPermutation-trans _ _ _ (IsPermutation-sym _ _ (IsPermutation-map f _ _ (IsPermutation-trans _ _ _ kept_rows moved))) (subst (λ k. IsPermutation k a.ordered) kept a.same) in
        a.shown ∙ ap (λ (l : List Output). limited (as_count (eval limit (params ∷ []))) (map (λ (o : Output). o.1) l)) (sorted_unique (output_cmp q) (output_cmp_total q) _ a.ordered (ascending-map (λ x y. output_cmp q x y ≡ Less) f _ rises) same a.sorted)
        ∙ ap (limited (as_count (eval limit (params ∷ [])))) (map-map (λ (o : Output). o.1) f wanted ∙ map_same _ show (shows (pos 0)) wanted)

    -- ORDER BY orders the rows that pass as their keys do
    pub rows_in_order : (order : List (Term × Key)) → ((n : ℤ) (e : K × V) → output (one_table t filters project order) (params ∷ (Int n ∷ to_row e) ∷ []) ≡ output (one_table t filters project order) (params ∷ (Int (pos 0) ∷ to_row e) ∷ []))
        → ((a b : K × V) → p a ≡ true → p b ≡ true
        → output_cmp (one_table t filters project order) (output (one_table t filters project order) (params ∷ (Int (pos 0) ∷ to_row a) ∷ [])) (output (one_table t filters project order) (params ∷ (Int (pos 0) ∷ to_row b) ∷ [])) ≡ R a.0 b.0)
        → (rows : List Row) → Answers (record { schema = schema; trees = db }) (record { lets = []; body = one_table t filters project order }) params rows → rows ≡ map show (filter p (entries m))
    rows_in_order order unseen agrees rows h =
        rows_limited (lit (Int (negsuc 0))) order unseen (filter p (entries m)) (IsPermutation-refl _)
        (ascending_where (λ e. p e ≡ true) (λ a b. R a.0 b.0 ≡ Less) _ (λ a b pa pb less. agrees a b pa pb ∙ less) (filter p (entries m)) (all_passed p (entries m)) (ascending-filter _ p (entries m) (entries_rise R total m))) rows h

  -- ---- INSERT

  next_is : (xs : List (ℤ × (K × V))) → next_rowid (map (numbered to_row) xs) ≡ next_key number xs
  next_is xs = fold-map (λ _ r. id_in (rowid r) +ℤ pos 1) (numbered to_row) (pos 1) xs

  last_above : (xs : List (ℤ × (K × V))) → IsKeyedBy number xs → AllByRecursion (λ x. x.0 <ℤ next_key number xs) xs
  last_above [] up = tt
  last_above (x ∷ xs) up = above_all number xs x up

  differ_is : (a b : ℤ) → differ (Int a) (Int b) ≡ not (int_eq a b)
  differ_is a b = at_ints false Ne a b

  map_push : {A B : Type 0} (f : A → B) (xs : List A) (x : A) → map f (xs ++ x ∷ []) ≡ map f xs ++ f x ∷ []
  map_push f [] x = refl
  map_push f (y ∷ xs) x = ap (λ l. f y ∷ l) (map_push f xs x)

  -- how UNIQUE compares two rows
  abbrev pub Compares : List ℕ → Type 0
  Compares places = (a b : ℤ × (K × V)) → agree plain places (numbered to_row a) places (numbered to_row b) ≡ eq_by_cmp R a.1.0 b.1.0

  -- no other row has the key of the last, where UNIQUE holds of the last
  unclashed : (places : List ℕ) → Compares places → (xs : List (ℤ × (K × V))) (new : ℤ × (K × V)) (rows : List Row) → rows ≡ map (numbered to_row) (xs ++ new ∷ []) → AllByRecursion (λ x. x.0 <ℤ new.0) xs
      → AllByRecursion (λ row. (not (clashes plain places rows row) && true) ≡ true) rows → AllByRecursion (λ x. eq_by_cmp R x.1.0 new.1.0 ≡ false) xs
  unclashed places compares xs new rows is above all =
      let passes = subst (λ rs. AllByRecursion (λ row. (not (clashes plain places rs row) && true) ≡ true) rs) is all in
      let here = no_clash _ (last_of (λ x. (not (clashes plain places (map (numbered to_row) (xs ++ new ∷ [])) (numbered to_row x)) && true) ≡ true) xs new (all_unmap _ (numbered to_row) (xs ++ new ∷ []) passes)) in
      let each = front_of (λ x. (agree plain places (numbered to_row x) places (numbered to_row new) && differ (Int x.0) (Int new.0)) ≡ false) xs new (all_unmap _ (numbered to_row) (xs ++ new ∷ []) (none_from_any _ (map (numbered to_row) (xs ++ new ∷ [])) here)) in
      all_both _ _ (λ x. eq_by_cmp R x.1.0 new.1.0 ≡ false) (λ x no low. first_false _ _ (sym (ap₂ ◌&&◌ (compares x new) (differ_is x.0 new.0)) ∙ no) (let k = low in grind (arith, ints))) xs each above

  module _ (same : IsAntisymmetric R) (schema : Schema) (keys : Keys) (table : Table) (db next : Trees) (m : FinMap R V) (was : IsMap R to_row (db table.tree) m) where
    pub record Inserted (e : K × V) : Type 0 where
      pub now : IsMap R to_row (next table.tree) (insert m e.0 e.1)
      pub free : get m e.0 ≡ None

    pub inserted : (places : List ℕ) → Compares places → (sources : List Row) (e : K × V) → (edit_of db table [] Chosen 0 sources).news ≡ (Int (next_rowid (db table.tree)) ∷ to_row e) ∷ []
        → Applies schema keys db (edit_of db table [] Chosen 0 sources) next → AllByRecursion (λ row. (not (clashes plain places (next table.tree) row) && true) ≡ true) (next table.tree) → Inserted e
    inserted places compares sources e news h unique =
        let xs = was.raw in
        let n : ℤ × (K × V) = (next_key number xs, e) in
        let put = puts number (numbered to_row) (λ _. refl) schema keys table db next xs was.rows sources n (news ∙ ap (λ r. (Int r ∷ to_row e) ∷ []) (ap next_rowid was.rows ∙ next_is xs)) h in
        let last : insert_by number xs n ≡ xs ++ n ∷ [] = insert_next number xs n was.keyed refl in
        let rows : next table.tree ≡ map (numbered to_row) (xs ++ n ∷ []) = put.rows ∙ ap (map (numbered to_row)) last in
        let fresh : AllByRecursion (λ x. eq_by_cmp R x.1.0 e.0 ≡ false) xs = unclashed places compares xs n (next table.tree) rows (last_above xs was.keyed) unique in
        let none : find R e.0 (map entry xs) ≡ None = found_none R total same (map entry xs) e.0 (all_map _ entry xs fresh) in
        record {
          now = record {
            raw = xs ++ n ∷ [];
            rows = rows;
            keyed = subst (IsKeyedBy number) last (IsKeyedBy-insert_by number xs n was.keyed);
            apart = ascending-append (λ a b. eq_by_cmp R a.1.0 b.1.0 ≡ false) xs (n ∷ []) was.apart (tt, tt) (all_weaker (λ (x : ℤ × (K × V)). eq_by_cmp R x.1.0 e.0 ≡ false) (λ x. AllByRecursion (λ b. eq_by_cmp R x.1.0 b.1.0 ≡ false) (n ∷ [])) (λ x no. (no, tt)) xs fresh);
            is = ap (λ l. insert l e.0 e.1) was.is ∙ sym (from_entries_push total same (map entry xs) e.0 e.1 none) ∙ ap from_entries (sym (map_push entry xs n));
          };
          free = ap (λ l. get l e.0) was.is ∙ get-from_entries total (map entry xs) e.0 ∙ none;
        }

    -- DELETE of the rows that pass, where the query gives their rowids
    module _ (filters project : List Term) (params : Row) (p : K × V → Bool) (tests : (n : ℤ) (e : K × V) → list_all (holds (params ∷ (Int n ∷ to_row e) ∷ [])) filters ≡ p e)
        (shows : (n : ℤ) (e : K × V) → eval_all project (params ∷ (Int n ∷ to_row e) ∷ []) ≡ Int n ∷ []) where
      pub deleted : (rows : List Row) → Answers (record { schema = schema; trees = db }) (record { lets = []; body = one_table table.tree filters project [] }) params rows → Applies schema keys db (edit_of db table (ids_of rows) Given 0 []) next
          → (now : FinMap R V) → now ≡ from_entries (filter (λ e. not (p e)) (map entry was.raw)) → IsMap R to_row (next table.tree) now
      deleted rows gone h now is =
          let xs = was.raw in
          let given = any_rows number (numbered to_row) (λ _. refl) schema db table.tree xs was.rows was.keyed params filters project (λ n. p n.1) (λ n. tests n.0 n.1) (λ n. Int n.0 ∷ []) (λ n. shows n.0 n.1) rows gone in
          record {
            raw = filter (λ n. not (p n.1)) xs;
            rows = removed_any number (numbered to_row) (λ _. refl) schema keys table db next xs was.rows was.keyed (λ n. p n.1) (λ n. Int n.0 ∷ []) (λ _. refl) rows given h;
            keyed = IsKeyedBy-delete_where number (λ n. p n.1) xs was.keyed;
            apart = ascending-filter _ (λ n. not (p n.1)) xs was.apart;
            is = is ∙ ap from_entries (filter-map (λ e. not (p e)) entry xs);
          }

      -- WHERE is the key
      pub deleted_at : (k : K) → ((e : K × V) → p e ≡ eq_by_cmp R k e.0) → (rows : List Row) → Answers (record { schema = schema; trees = db }) (record { lets = []; body = one_table table.tree filters project [] }) params rows
          → Applies schema keys db (edit_of db table (ids_of rows) Given 0 []) next → IsMap R to_row (next table.tree) (remove m k)
      deleted_at k at rows gone h =
          deleted rows gone h (remove m k) (ap (λ l. remove l k) was.is ∙ removed_is R total same (map entry was.raw) k ∙ ap from_entries (filter_same _ (λ e. not (p e)) (λ e. ap not (sym (at e))) (map entry was.raw)))

    -- UPDATE of the other columns of the row with a key
    module _ (filters project : List Term) (params : Row) (p : K × V → Bool) (tests : (n : ℤ) (e : K × V) → list_all (holds (params ∷ (Int n ∷ to_row e) ∷ [])) filters ≡ p e)
        (show : ℤ → K × V → Row) (shows : (n : ℤ) (e : K × V) → eval_all project (params ∷ (Int n ∷ to_row e) ∷ []) ≡ show n e) (ids : (n : ℤ) (e : K × V) → id_in (rowid (show n e)) ≡ n)
        (g : V → V) (casts : (n : ℤ) (e : K × V) → cast_row table (drop 1 (show n e)) ≡ Int n ∷ to_row (e.0, g e.1)) (k : K) (at : (e : K × V) → p e ≡ eq_by_cmp R k e.0) where
      few : length (filter (λ n. p n.1) was.raw) ≤ 1
      few =
          let moved : map entry (filter (λ n. p n.1) was.raw) ≡ filter p (map entry was.raw) = sym (filter-map p entry was.raw) in
          let found : filter p (entries m) ≡ option_to_list (option_map (λ v. (k, v)) (get m k)) = filter_same p _ at (entries m) ∙ entry_at R total same m k in
          let one : length (filter p (entries m)) ≤ 1 = subst (λ l. length l ≤ 1) (sym found) (at_most_one _) in
          let as_long : length (filter p (map entry was.raw)) ≡ length (filter p (entries m)) = sym (length_permutation _ _ (IsPermutation-filter p _ _ (same_rows (db table.tree) m was))) in
          subst (λ n. n ≤ 1) (sym (sym (length-map _ _) ∙ ap length moved ∙ as_long)) one

      abbrev changed_row : ℤ × (K × V) → ℤ × (K × V)
      changed_row n = (n.0, (n.1.0, g n.1.1))

      key_stays : (b : Bool) (n : ℤ × (K × V)) → (cond b (changed_row n) n).1.0 ≡ n.1.0
      key_stays true n = refl
      key_stays false n = refl

      entry_changes : (b : Bool) (n : ℤ × (K × V)) → entry (cond b (changed_row n) n) ≡ cond b (n.1.0, g n.1.1) n.1
      entry_changes true n = refl
      entry_changes false n = refl

      pub updated_at : (rows : List Row) → Answers (record { schema = schema; trees = db }) (record { lets = []; body = one_table table.tree filters project [] }) params rows
          → Applies schema keys db (edit_of db table (ids_of rows) Given 1 rows) next → IsMap R to_row (next table.tree) (adjust m k g)
      updated_at rows asked h =
          let xs = was.raw in
          let given = few_rows number (numbered to_row) (λ _. refl) schema db table.tree xs was.rows was.keyed params filters project (λ n. p n.1) (λ n. tests n.0 n.1) (λ n. show n.0 n.1) (λ n. shows n.0 n.1) few rows asked in
          record {
            raw = update_where (λ n. p n.1) changed_row xs;
            rows = changed number (numbered to_row) (λ _. refl) schema keys table db next xs was.rows was.keyed (λ n. p n.1) (λ n. show n.0 n.1) (λ n. ids n.0 n.1) changed_row (λ _. refl) (λ n. casts n.0 n.1) rows given h;
            keyed = IsKeyedBy-update_where number (λ n. p n.1) changed_row (λ _. refl) xs was.keyed;
            apart = ascending-map (λ a b. eq_by_cmp R a.1.0 b.1.0 ≡ false) (λ n. cond (p n.1) (changed_row n) n) xs
                (ascending_weaker _ (λ a b. eq_by_cmp R (cond (p a.1) (changed_row a) a).1.0 (cond (p b.1) (changed_row b) b).1.0 ≡ false) (λ a b h. ap₂ (eq_by_cmp R) (key_stays (p a.1) a) (key_stays (p b.1) b) ∙ h) xs was.apart);
            is = ap (λ l. adjust l k g) was.is ∙ adjusted_is R total same g (map entry xs) k
                ∙ ap from_entries (map-map (changes_at R total same g k) entry xs ∙ map_same _ (λ n. entry (cond (p n.1) (changed_row n) n)) (λ n. sym (entry_changes (p n.1) n ∙ ap (λ b. cond b (n.1.0, g n.1.1) n.1) (at n.1))) xs
                ∙ sym (map-map entry (λ n. cond (p n.1) (changed_row n) n) xs));
          }
