-- What each kind of statement does to a table that stands for a list of typed rows, in the order of their rowids.
use Rattle.station_schema.proofs.Common.{AllByRecursion, Answers, Applies, Bool, Chosen, Given, Greater, Int, IsKeyedBy, IsPermutation, IsPermutation-map, IsPermutation-sym, Key, Keys, Less-from_lt, List, None, Null, Option, Output, Query, Row, Schema, Some, Source, Table, Term, Trees, [], all-filter, all_map, all_weaker, ap, ap₂, are_fresh, arith, at_end, cast_row, cond, delete_where, drop, edit_of, end, eval_all, false, filter, fold, has_key, holds, id_in, ids_of, inner, insert_by, int_cmp, int_eq, ints, is_some, is_taken, last_table, left_by, length, length-map, length_permutation, list_all, lit, map, map-map, map_same, match_ordering, matches_are, nat_le, negsuc, not, one_permutation, output, overlay, pos, put_all, put_row, refl, rowid, slice_get, subst, subst₂, sym, true, unwrap_or, update_where, value_cmp-Int, with_rowid, without_all, without_key, ℕ, ℤ, ◌&&◌, ◌-◌, ◌<ℤ◌, ◌^◌, ◌||◌, ◌∙◌, ◌∷◌, ◌≡◌, ◌≤◌}
use Rattle.sqlite.specs.Edit.{numbered}
use Rattle.sqlite_keyed.proofs.WriteLemmas.{removes_delete}
use Rattle.station_schema.proofs.Many.{any_order}
use Rattle.sqlite_typed.proofs.RowLemmas.{puts-map, deletes-map}

-- a query with no subquery in FROM reads the trees themselves
pub no_overlay : (db : Trees) (t : ℕ) → overlay db [] t ≡ db t
no_overlay db t = elim (nat_le (2 ^ 31) t) as (λ b. unwrap_or (cond b (slice_get [] (t - 2 ^ 31)) None) (db t) ≡ db t) [ true ↦ refl | false ↦ refl ]

module _ {X : Type 0} (key : X → ℤ) (to_row : X → Row) (keyed : (x : X) → rowid (to_row x) ≡ Int (key x)) where
  or_some : (b : Bool) (x : X) (rest : Bool) (o : Option X) → rest ≡ is_some o → (b || rest) ≡ is_some (cond b (Some x) o)
  or_some true x rest o h = refl
  or_some false x rest o h = h

  pub taken_is : (xs : List X) (new : X) → is_taken (map to_row xs) (to_row new) ≡ has_key key xs (key new)
  taken_is [] new = refl
  taken_is (x ∷ xs) new = rw (keyed x, keyed new, value_cmp-Int (key x) (key new)) (or_some (int_eq (key x) (key new)) x _ _ (taken_is xs new))

-- SELECT over one table, with no GROUP BY, DISTINCT or LIMIT
abbrev pub one_table : ℕ → List Term → List Term → List (Term × Key) → Query
one_table t filter project order = record {
  from = inner t end;
  filter = filter;
  group = None;
  project = project;
  distinct = false;
  collations = [];
  order = order;
  limit = lit (Int (negsuc 0));
  offset = lit (Int (pos 0));
}

same_few : (outs answer : List Output) → length outs ≤ 1 → IsPermutation outs answer → answer ≡ outs
same_few [] [] few same = refl
same_few [] (y ∷ ys) few same = absurd (omega (arith, length_permutation [] (y ∷ ys) same))
same_few (o ∷ []) answer few same = one_permutation o answer same
same_few (o ∷ p ∷ outs) answer few same = absurd (omega arith)

module _ {X : Type 0} (key : X → ℤ) (to_row : X → Row) (keyed : (x : X) → rowid (to_row x) ≡ Int (key x)) (schema : Schema) (db : Trees) (t : ℕ) (xs : List X) (stored : db t ≡ map to_row xs) (up : IsKeyedBy key xs)
    (params : Row) (filters project : List Term) (p : X → Bool) (tests : (x : X) → list_all (holds (params ∷ to_row x ∷ [])) filters ≡ p x)
    (show : X → Row) (shows : (x : X) → eval_all project (params ∷ to_row x ∷ []) ≡ show x) where
  abbrev pub seen : Source (overlay db []) (inner t end) X
  seen = last_table (overlay db []) t to_row key xs (no_overlay db t ∙ stored) up (at_end (overlay db []))

  -- no ORDER BY, and one row at most
  pub few_rows : length (filter p xs) ≤ 1 → (rows : List Row) → Answers (record { schema = schema; trees = db }) (record { lets = []; body = one_table t filters project [] }) params rows → rows ≡ map show (filter p xs)
  few_rows few rows h =
      let q = one_table t filters project [] in
      let a = h.answer Null in
      let outs = map (output q) (map (λ x. params ∷ to_row x ∷ []) (filter p xs)) in
      let kept : a.kept ≡ outs = a.distinct ∙ ap (map (output q)) (a.grouped ∙ matches_are q (overlay db []) params seen p tests) in
      let ordered = same_few outs a.ordered (simp length-map few) (subst (λ k. IsPermutation k a.ordered) kept a.same) in
      a.shown ∙ ap (map (λ (o : Output). o.1)) ordered ∙ ap (map (λ (o : Output). o.1)) (map-map (output q) (λ x. params ∷ to_row x ∷ []) (filter p xs))
      ∙ map-map (λ (o : Output). o.1) (λ x. output q (params ∷ to_row x ∷ [])) (filter p xs) ∙ map_same _ show shows (filter p xs)

  -- no ORDER BY: the rows in some order
  pub any_rows : (rows : List Row) → Answers (record { schema = schema; trees = db }) (record { lets = []; body = one_table t filters project [] }) params rows → IsPermutation (map show (filter p xs)) rows
  any_rows rows h =
      let q = one_table t filters project [] in
      let a = h.answer Null in
      let outs = map (output q) (map (λ x. params ∷ to_row x ∷ []) (filter p xs)) in
      let kept : a.kept ≡ outs = a.distinct ∙ ap (map (output q)) (a.grouped ∙ matches_are q (overlay db []) params seen p tests) in
      let all : map (λ (o : Output). o.1) outs ≡ map show (filter p xs) = ap (map (λ (o : Output). o.1)) (map-map (output q) (λ x. params ∷ to_row x ∷ []) (filter p xs))
      ∙ map-map (λ (o : Output). o.1) (λ x. output q (params ∷ to_row x ∷ [])) (filter p xs) ∙ map_same _ show shows (filter p xs) in
      let moved = IsPermutation-map (λ (o : Output). o.1) outs a.ordered (subst (λ k. IsPermutation k a.ordered) kept a.same) in
      subst₂ IsPermutation all (sym a.shown) moved

-- a write to such a table
module _ {X : Type 0} (key : X → ℤ) (to_row : X → Row) (keyed : (x : X) → rowid (to_row x) ≡ Int (key x)) (schema : Schema) (keys : Keys) (table : Table) (db next : Trees) (xs : List X)
    (stored : db table.tree ≡ map to_row xs) where
  pub record Puts (new : X) : Type 0 where
    pub rows : next table.tree ≡ map to_row (insert_by key xs new)
    pub fresh : has_key key xs (key new) ≡ false

  pub puts : (sources : List Row) (new : X) → (edit_of db table [] Chosen 0 sources).news ≡ to_row new ∷ [] → Applies schema keys db (edit_of db table [] Chosen 0 sources) next → Puts new
  puts sources new is h = record {
    rows = h.rows ∙ ap (λ news. fold (λ rows r. put_row r rows) (db table.tree) news) is ∙ ap (put_row (to_row new)) stored ∙ puts-map key to_row keyed (new ∷ []) xs;
    fresh = free (subst (λ news. are_fresh (db table.tree) news ≡ true) is h.fresh);
  }
    where
      not_false : (b : Bool) → (not b && true) ≡ true → b ≡ false
      not_false true e = cc
      not_false false e = refl

      free : are_fresh (db table.tree) (to_row new ∷ []) ≡ true → has_key key xs (key new) ≡ false
      free e = sym (taken_is key to_row keyed xs new) ∙ ap (λ rows. is_taken rows (to_row new)) (sym stored) ∙ not_false _ e

pub fold-map : {A B C : Type 0} (f : C → B → C) (g : A → B) (c : C) (xs : List A) → fold f c (map g xs) ≡ fold (λ d x. f d (g x)) c xs
fold-map f g c [] = refl
fold-map f g c (x ∷ xs) = fold-map f g (f c (g x)) xs

-- rowids that rows have stay
module _ {X : Type 0} (key : X → ℤ) (to_row : X → Row) (keyed : (x : X) → rowid (to_row x) ≡ Int (key x)) where
  numbered_chosen : (rows : List Row) (news : List X) → numbered Chosen rows (map to_row news) ≡ map to_row news
  numbered_chosen rows [] = refl
  numbered_chosen rows (x ∷ news) =
      let same : with_rowid Chosen rows (to_row x) ≡ to_row x = rw (keyed x) refl in
      ap₂ ◌∷◌ same (numbered_chosen (put_row (with_rowid Chosen rows (to_row x)) rows) news)

  -- INSERT of many rows
  pub puts_all : (schema : Schema) (keys : Keys) (table : Table) (db next : Trees) (xs : List X) → db table.tree ≡ map to_row xs → (sources : List Row) (news : List X)
      → map (λ s. cast_row table s) sources ≡ map to_row news → Applies schema keys db (edit_of db table [] Chosen 0 sources) next → next table.tree ≡ map to_row (fold (insert_by key) xs news)
  puts_all schema keys table db next xs stored sources news is h =
      let all : (edit_of db table [] Chosen 0 sources).news ≡ map to_row news = ap (numbered Chosen (db table.tree)) is ∙ numbered_chosen (db table.tree) news in
      h.rows ∙ ap₂ (λ l ns. put_all l ns) stored all ∙ fold-map (λ rows r. put_row r rows) to_row (map to_row xs) news ∙ puts-map key to_row keyed news xs

-- rowids that are given stay
numbered_given : (rows news : List Row) → numbered Given rows news ≡ news
numbered_given rows [] = refl
numbered_given rows (r ∷ rs) = ap (λ l. r ∷ l) (numbered_given (put_row r rows) rs)

module _ {X : Type 0} (key : X → ℤ) where
  insert_front : (new : X) (xs : List X) → AllByRecursion (λ y. key new <ℤ key y) xs → insert_by key xs new ≡ new ∷ xs
  insert_front new [] above = refl
  insert_front new (x ∷ xs) above =
      let k = above.0 in
      let o : int_cmp (key x) (key new) ≡ Greater = grind (arith, ints) in
      ap (λ c. match_ordering c (x ∷ insert_by key xs new) (new ∷ xs) (new ∷ x ∷ xs)) o

  pub puts_past : (news : List X) (x : X) (xs : List X) → AllByRecursion (λ n. key x <ℤ key n) news → fold (insert_by key) (x ∷ xs) news ≡ x ∷ fold (insert_by key) xs news
  puts_past [] x xs above = refl
  puts_past (n ∷ news) x xs above = rw (Less-from_lt (key x) (key n) above.0) (puts_past news x (insert_by key xs n) above.1)

  module _ (p : X → Bool) (f : X → X) (keeps : (x : X) → key (f x) ≡ key x) where
    -- the rows that pass, taken out and put back changed
    pub replaces : (xs : List X) → IsKeyedBy key xs → fold (insert_by key) (delete_where p xs) (map f (filter p xs)) ≡ update_where p f xs
    replaces [] up = refl
    replaces (x ∷ xs) up = go (p x) (replaces xs up.1)
      where
        above : (y : X) → key y ≡ key x → AllByRecursion (λ n. key y <ℤ key n) (map f (filter p xs))
        above y same = all_map _ f _ (all-filter _ p xs (all_weaker _ (λ n. key y <ℤ key (f n)) (λ n h. rw (same, keeps n) h) xs up.0))

        go : (b : Bool) → fold (insert_by key) (delete_where p xs) (map f (filter p xs)) ≡ update_where p f xs
            → fold (insert_by key) (cond (not b) (x ∷ delete_where p xs) (delete_where p xs)) (map f (cond b (x ∷ filter p xs) (filter p xs))) ≡ cond b (f x) x ∷ update_where p f xs
        go true more =
            let front = insert_front (f x) (delete_where p xs) (all-filter _ (λ y. not (p y)) xs (all_weaker _ (λ y. key (f x) <ℤ key y) (λ y h. rw (keeps x) h) xs up.0)) in
            ap (λ l. fold (insert_by key) l (map f (filter p xs))) front ∙ puts_past _ (f x) (delete_where p xs) (above (f x) (keeps x)) ∙ ap (λ l. f x ∷ l) more
        go false more = puts_past _ x (delete_where p xs) (above x refl) ∙ ap (λ l. x ∷ l) more

module _ {X : Type 0} (key : X → ℤ) (to_row : X → Row) (keyed : (x : X) → rowid (to_row x) ≡ Int (key x)) (schema : Schema) (keys : Keys) (table : Table) (db next : Trees) (xs : List X)
    (stored : db table.tree ≡ map to_row xs) (up : IsKeyedBy key xs) (p : X → Bool) (show : X → Row) (ids : (x : X) → id_in (rowid (show x)) ≡ key x) where
  ids_are : ids_of (map show (filter p xs)) ≡ map key (filter p xs)
  ids_are = map-map (λ r. id_in (rowid r)) show (filter p xs) ∙ map_same _ key ids (filter p xs)

  left_are : without_all (db table.tree) (ids_of (map show (filter p xs))) ≡ map to_row (delete_where p xs)
  left_are = ap₂ without_all stored ids_are ∙ deletes-map key to_row keyed (map key (filter p xs)) xs ∙ ap (map to_row) (removes_delete key p xs up)

  pub changed : (f : X → X) → ((x : X) → key (f x) ≡ key x) → ((x : X) → cast_row table (drop 1 (show x)) ≡ to_row (f x))
      → (rows : List Row) → rows ≡ map show (filter p xs) → Applies schema keys db (edit_of db table (ids_of rows) Given 1 rows) next → next table.tree ≡ map to_row (update_where p f xs)
  changed f keeps casts rows is h =
      let news : (edit_of db table (ids_of rows) Given 1 rows).news ≡ map to_row (map f (filter p xs)) =
      numbered_given _ _ ∙ ap (map (λ s. cast_row table (drop 1 s))) is ∙ map-map _ show (filter p xs) ∙ map_same _ (λ x. to_row (f x)) casts (filter p xs) ∙ sym (map-map to_row f (filter p xs)) in
      h.rows ∙ ap (put_all (left_by db (edit_of db table (ids_of rows) Given 1 rows))) news
      ∙ ap (λ l. put_all l (map to_row (map f (filter p xs)))) (ap (λ rs. without_all (db table.tree) (ids_of rs)) is ∙ left_are)
      ∙ put_all-map (map f (filter p xs)) (delete_where p xs)
      ∙ ap (map to_row) (replaces key p f keeps xs up)
    where
      put_all-map : (news ys : List X) → put_all (map to_row ys) (map to_row news) ≡ map to_row (fold (insert_by key) ys news)
      put_all-map news ys = fold-map (λ rows r. put_row r rows) to_row (map to_row ys) news ∙ puts-map key to_row keyed news ys

  -- DELETE of many rows
  pub removed_any : (rows : List Row) → IsPermutation (map show (filter p xs)) rows → Applies schema keys db (edit_of db table (ids_of rows) Given 0 []) next → next table.tree ≡ map to_row (delete_where p xs)
  removed_any rows same h =
      let order = any_order key (ids_of rows) (ids_of (map show (filter p xs))) xs (IsPermutation-sym _ _ (IsPermutation-map (λ r. id_in (rowid r)) _ _ same)) in
      h.rows ∙ ap (λ l. without_all l (ids_of rows)) stored ∙ deletes-map key to_row keyed (ids_of rows) xs
      ∙ ap (map to_row) (order ∙ ap (fold (without_key key) xs) ids_are ∙ removes_delete key p xs up)
