-- The rows that list some trees of a store, one by one; and those of a database of a station.
use Rattle.station_files.proofs.Common.{Bool, Has, Int, IsIndexRow, IsTableRow, IsViewRow, List, Lists, ListsIndex, ListsStation, ListsTable, None, Object, Option, Row, Shape, Some, Text, [], all_has, and_parts, ap, ap₂, arith, cases_Bool, cases_eq, column, eqb, eqb-true, find, get_or, has_either, has_filtered, has_kept, has_left, has_right, has_rowid, index_reals, inl, inr, is_index_row, is_present, is_table_row, is_view_row, length, list_all, list_any, listed, listed_from, listing, map, name_of, number_in, option_map, or_cases, pos, refl, renumbered, rowid, rows_from, shape_code, shown_row, slice_get, some_has, station_schema, subst, suc, sym, table_reals, test_has, text_or_null, true, unwrap_or, wanted_of, zero, ℕ, ◌&&◌, ◌++◌, ◌+◌, ◌<◌, ◌||◌, ◌∙◌, ◌∷◌, ◌≡◌}
use Rattle.std.specs.Borrow.{Bor}
use Rattle.sqlite_catalog.proofs.LayoutLemmas.{row_kind, zipped_left, zipped_right}
use Rattle.sqlite_schema.specs.declared.schema.Index.{Index}
use Rattle.sqlite_schema.specs.declared.schema.Table.{Table}
use Rattle.sqlite_trees.specs.declared.store.Shape.TheVariants as shape
use Rattle.station_files.proofs.EntryNames.{IsWord, IsWorded}
use Rattle.station_files.proofs.SameReading.{listed_none, listed_one}

-- the row that is shown at a place
abbrev pub row_at : ℕ → List ℕ → List Row → ℕ → Option Row
row_at from [] rows at = None
row_at from (n ∷ numbers) rows zero = option_map (renumbered from) (find (has_rowid (pos (n + 1))) rows)
row_at from (n ∷ numbers) rows (suc at) = row_at (from + 1) numbers rows at

abbrev rows_of : Option Row → List Row
rows_of None = []
rows_of (Some row) = row ∷ []

shown_is : (from : ℕ) (o : Option Row) → shown_row from o ≡ rows_of (option_map (renumbered from) o)
shown_is from None = refl
shown_is from (Some row) = refl

-- rows that are the same at each place are the same
pub rows_same : (from : ℕ) (a b : List ℕ) (x y : List Row) → ((at : ℕ) → row_at from a x at ≡ row_at from b y at) → rows_from from a x ≡ rows_from from b y
rows_same from [] [] x y h = refl
rows_same from [] (n ∷ b) x y h = ap₂ (λ (p q : List Row). p ++ q) (ap rows_of (h 0) ∙ sym (shown_is from (find (has_rowid (pos (n + 1))) y))) (rows_same (from + 1) [] b x y (λ at. h (suc at)))
rows_same from (m ∷ a) [] x y h = ap₂ (λ (p q : List Row). p ++ q) (shown_is from (find (has_rowid (pos (m + 1))) x) ∙ ap rows_of (h 0)) (rows_same (from + 1) a [] x y (λ at. h (suc at)))
rows_same from (m ∷ a) (n ∷ b) x y h =
    ap₂ (λ (p q : List Row). p ++ q) (shown_is from (find (has_rowid (pos (m + 1))) x) ∙ ap rows_of (h 0) ∙ sym (shown_is from (find (has_rowid (pos (n + 1))) y)))
    (rows_same (from + 1) a b x y (λ at. h (suc at)))

-- which row it is
pub record Shows (from : ℕ) (numbers : List ℕ) (rows : List Row) (at : ℕ) (row : Row) : Type 0 where
  pub within : at < length numbers
  pub inner : Row
  pub found : find (has_rowid (pos (get_or numbers at 0 + 1))) rows ≡ Some inner
  pub is : row ≡ renumbered (from + at) inner

pub shows : (from : ℕ) (numbers : List ℕ) (rows : List Row) (at : ℕ) (row : Row) → row_at from numbers rows at ≡ Some row → Shows from numbers rows at row
shows from [] rows at row h = absurd (cc)
shows from (n ∷ numbers) rows zero row h = go (find (has_rowid (pos (n + 1))) rows) refl h
  where
    go : (o : Option Row) → find (has_rowid (pos (n + 1))) rows ≡ o → option_map (renumbered from) o ≡ Some row → Shows from (n ∷ numbers) rows zero row
    go None is e = absurd (cc)
    go (Some inner) is e = record { within = omega arith; inner = inner; found = is; is = (let same : from + 0 ≡ from = omega arith in let x = e in cc) }
shows from (n ∷ numbers) rows (suc at) row h =
    let r = shows (from + 1) numbers rows at row h in
    let same : from + 1 + at ≡ from + suc at = omega arith in
    record { within = omega (arith, r.within); inner = r.inner; found = r.found; is = r.is ∙ ap (λ t. renumbered t r.inner) same }

pub shown_has : (from : ℕ) (numbers : List ℕ) (rows : List Row) (at : ℕ) (row : Row) → row_at from numbers rows at ≡ Some row → Has (rows_from from numbers rows) row
shown_has from [] rows at row h = absurd (cc)
shown_has from (n ∷ numbers) rows zero row h = has_left (shown_row from (find (has_rowid (pos (n + 1))) rows)) _ row (rw (shown_is from (find (has_rowid (pos (n + 1))) rows), h) (inl refl))
shown_has from (n ∷ numbers) rows (suc at) row h = has_right (shown_row from (find (has_rowid (pos (n + 1))) rows)) _ row (shown_has (from + 1) numbers rows at row h)

pub has_shown : (from : ℕ) (numbers : List ℕ) (rows : List Row) (row : Row) → Has (rows_from from numbers rows) row
    → (at : ℕ) × (row_at from numbers rows at ≡ Some row) × (rowid row ≡ Int (pos (from + at + 1)))
has_shown from [] rows row h = absurd h
has_shown from (n ∷ numbers) rows row h = elim (has_either (shown_row from (find (has_rowid (pos (n + 1))) rows)) _ row h) [
  | inl here ↦ go (find (has_rowid (pos (n + 1))) rows) refl here
  | inr later ↦
      let r = has_shown (from + 1) numbers rows row later in
      let same : from + 1 + r.0 + 1 ≡ from + suc r.0 + 1 = omega arith in
      (suc r.0, r.1, r.2 ∙ ap (λ n. Int (pos n)) same)
]
  where
    go : (o : Option Row) → find (has_rowid (pos (n + 1))) rows ≡ o → Has (shown_row from o) row
        → (at : ℕ) × (row_at from (n ∷ numbers) rows at ≡ Some row) × (rowid row ≡ Int (pos (from + at + 1)))
    go None is there = absurd there
    go (Some inner) is (inl same) = let first : from + 1 ≡ from + 0 + 1 = omega arith in (0, rw (is, same) refl, rw same (ap (λ n. Int (pos n)) first))
    go (Some inner) is (inr never) = absurd never

-- The row lists the tree with this number under a name, with the code of its shape and its REAL
-- columns.
pub record IsNamed (t : ℕ) (name : List ℕ × ℕ × ℕ) (r : Row) : Type 0 where
  pub id : rowid r ≡ Int (pos (t + 1))
  pub name_is : column r 2 ≡ Text name.0
  pub shape_is : number_in (column r 5) ≡ name.1
  pub reals_are : number_in (column r 6) ≡ name.2

-- the objects of a list
pub listed_within : (from : ℕ) (objects : List Object) (row : Row) → Has (listed_from from (map wanted_of objects)) row → (at : ℕ) × (at < length objects) × (rowid row ≡ Int (pos (from + at + 1)))
listed_within from [] row h = absurd h
listed_within from (o ∷ objects) row h = elim (has_either (listed from (wanted_of o) o.shape) _ row h) [
  | inl here ↦ (0, omega arith, go here)
  | inr later ↦
      let r = listed_within (from + 1) objects row later in
      let same : from + 1 + r.0 + 1 ≡ from + suc r.0 + 1 = omega arith in
      (suc r.0, omega (arith, r.1), r.2 ∙ ap (λ n. Int (pos n)) same)
]
  where
    first : from + 1 ≡ from + 0 + 1
    first = omega arith

    go : Has (listed from (wanted_of o) o.shape) row → rowid row ≡ Int (pos (from + 0 + 1))
    go there = elim (cases_Bool (is_present o.shape)) [
      | inl one ↦ elim (subst (λ rows. Has rows row) (listed_one from (wanted_of o) o.shape one) there) [ inl is ↦ rw is (ap (λ n. Int (pos n)) first) | inr never ↦ absurd never ]
      | inr none ↦ absurd (subst (λ rows. Has rows row) (listed_none from (wanted_of o) o.shape none) there)
    ]

worded : (sql : Option (Bor (List ℕ))) → IsWord (text_or_null sql)
worded None = inl refl
worded (Some text) = inr (text.now, refl)

-- the row of the object at a place
pub record ObjectRow (from at : ℕ) (objects : List Object) (name : List ℕ × ℕ × ℕ) : Type 0 where
  pub row : Row
  pub there : Has (listed_from from (map wanted_of objects)) row
  pub named : IsNamed (from + at) name row
  pub words : IsWorded row

pub object_row : (from at : ℕ) (objects : List Object) (name : List ℕ × ℕ × ℕ) → slice_get (map name_of objects) at ≡ Some name → 0 < name.1 → ObjectRow from at objects name
object_row from at [] name h present = absurd (cc)
object_row from zero (o ∷ objects) name h present =
    let here : name_of o ≡ name = some_is h in
    let same : from ≡ from + 0 = omega arith in
    let row = listing from (wanted_of o).row o.shape o.reals in
    record {
      row = row;
      there = has_left _ _ row (go o.shape (omega (arith, present, ap (λ (n : List ℕ × ℕ × ℕ). n.1) here)));
      named = record {
        id = ap (λ n. Int (pos (n + 1))) same;
        name_is = ap (λ (n : List ℕ × ℕ × ℕ). Text n.0) here;
        shape_is = ap (λ (n : List ℕ × ℕ × ℕ). n.1) here;
        reals_are = ap (λ (n : List ℕ × ℕ × ℕ). n.2) here;
      };
      words = record { kind = inr (o.kind.now, refl); name = inr (o.name.now, refl); table = inr (o.table.now, refl); sql = worded o.sql };
    }
  where
    some_is : {X : Type 0} {a b : X} → Some a ≡ Some b → a ≡ b
    some_is {a} e = ap (λ o. unwrap_or o a) e

    go : (s : Shape) → 0 < shape_code s → Has (listed from (wanted_of o) s) (listing from (wanted_of o).row s o.reals)
    go shape.Absent there = absurd (omega (arith, there))
    go shape.Table there = inl refl
    go (shape.Index k) there = inl refl
    go shape.Pageless there = inl refl
    go shape.FrozenTable there = inl refl
    go (shape.FrozenIndex k) there = inl refl
object_row from (suc at) (o ∷ objects) name h present =
    let r = object_row (from + 1) at objects name h present in
    let same : from + 1 + at ≡ from + suc at = omega arith in
    record { row = r.row; there = has_right (listed from (wanted_of o) o.shape) _ r.row r.there; named = subst (λ t. IsNamed t name r.row) same r.named; words = r.words }

-- the trees of a station

abbrev is_plain_table : Table → Bool
is_plain_table table = eqb (table_reals table) 0

abbrev is_plain_index : Index → Bool
is_plain_index index = eqb (index_reals 0 index.columns) 0 && eqb index.order.digits 0

abbrev is_covered : ℕ → Bool
is_covered t = list_any (λ (table : Table). eqb table.tree t) station_schema.tables || list_any (λ (index : Index). eqb index.tree t) station_schema.indexes

abbrev all_below : (ℕ → Bool) → ℕ → Bool
all_below p zero = true
all_below p (suc n) = p n && all_below p n

below : (p : ℕ → Bool) (n t : ℕ) → all_below p n ≡ true → t < n → p t ≡ true
below p zero t all low = absurd (omega (arith, low))
below p (suc n) t all low = elim (cases_eq t n) [ inl is ↦ ap p is ∙ (and_parts (p n) (all_below p n) all).0 | inr other ↦ below p n t (and_parts (p n) (all_below p n) all).1 (omega (arith, low, other)) ]

plain_tables : list_all is_plain_table station_schema.tables ≡ true
plain_tables = refl

plain_indexes : list_all is_plain_index station_schema.indexes ≡ true
plain_indexes = refl

all_covered : all_below is_covered 23 ≡ true
all_covered = refl

-- what a list names at a place
pub record NamedIn (objects : List Object) (row : Row) : Type 0 where
  pub tree : ℕ
  pub name : List ℕ × ℕ × ℕ
  pub at : slice_get (map name_of objects) tree ≡ Some name
  pub paged : (0 < name.1) × (name.1 < 3)
  pub is : IsNamed tree name row

module _ (rows : List Row) (objects : List Object) (names : ListsStation objects) (lists : Lists rows station_schema) where
  -- each row of a database of a station names a tree of the list
  pub named : (row : Row) → Has rows row → NamedIn objects row
  named row there = elim (row_kind row) [
    | inl is ↦
        let r = zipped_right IsTableRow _ station_schema.tables row lists.listed.tables (has_kept is_table_row rows row there is) in
        let plain = eqb-true _ _ (test_has is_plain_table station_schema.tables r.0 plain_tables r.1) in
        record {
          tree = r.0.tree;
          name = (r.0.name, 1, 0);
          at = all_has (ListsTable objects) station_schema.tables r.0 names.tables r.1;
          paged = (omega arith, omega arith);
          is = record { id = r.2.described.id; name_is = r.2.described.name_is; shape_is = r.2.described.shape_is; reals_are = r.2.described.reals_are ∙ plain };
        }
    | inr (inl is) ↦
        let r = zipped_right (IsIndexRow station_schema.tables) _ station_schema.indexes row lists.listed.indexes (has_kept is_index_row rows row there is) in
        let plain = eqb-true _ _ (test_has is_plain_table station_schema.tables r.2.table plain_tables r.2.listed) in
        let both = and_parts _ _ (test_has is_plain_index station_schema.indexes r.0 plain_indexes r.1) in
        let digits = eqb-true _ _ both.1 in
        record {
          tree = r.0.tree;
          name = (r.0.name, 2, 0);
          at = all_has (ListsIndex objects) station_schema.indexes r.0 names.indexes r.1;
          paged = (omega arith, omega arith);
          is = record {
            id = r.2.described.id;
            name_is = r.2.described.name_is;
            shape_is = r.2.described.shape_is ∙ omega (arith, digits);
            reals_are = r.2.described.reals_are ∙ ap (λ n. index_reals n r.0.columns) plain ∙ eqb-true _ _ both.0;
          };
        }
    | inr (inr is) ↦
        let r = zipped_right IsViewRow _ station_schema.views row lists.listed.views (has_kept is_view_row rows row there is) in
        absurd r.1
  ]

  -- each tree of the list has its row
  pub has_tree : (t : ℕ) → t < length objects → (row : Row) × Has rows row × (rowid row ≡ Int (pos (t + 1)))
  has_tree t low = elim (or_cases _ _ (below is_covered 23 t all_covered (omega (arith, low, names.only)))) [
    | inl is ↦
        let found = some_has (λ (table : Table). eqb table.tree t) station_schema.tables is in
        let r = zipped_left IsTableRow _ station_schema.tables found.0 lists.listed.tables found.1 in
        (r.0, (has_filtered is_table_row rows r.0 r.1).0, r.2.described.id ∙ ap (λ n. Int (pos (n + 1))) (eqb-true _ _ found.2))
    | inr is ↦
        let found = some_has (λ (index : Index). eqb index.tree t) station_schema.indexes is in
        let r = zipped_left (IsIndexRow station_schema.tables) _ station_schema.indexes found.0 lists.listed.indexes found.1 in
        (r.0, (has_filtered is_index_row rows r.0 r.1).0, r.2.described.id ∙ ap (λ n. Int (pos (n + 1))) (eqb-true _ _ found.2))
  ]
