-- Two lists with the same rows read the same pages alike, whatever the order of trees in the pages.
use Rattle.station_files.proofs.Common.{Absent, FrozenIndex, FrozenTable, Index, List, PageMap, Pageless, Row, Shape, Table, Value, Wanted, [], ap, arith, cases_Bool, cases_eq, catalog_tree, column, cond, eq-eqb, false, file_trees, fun_ext, get_or, in_use, inl, inr, is_listed, is_present, le-ltb, listed, listed_from, listing, lt-ltb, map, ne_eqb, number_in, page_number, pos, reals_at, reals_if_present, refl, root_in, row_for, rows_at, same_listing, same_value, shape_at, shape_code, shown, suc, sym, thawed, true, value_cmp-Int, version_tree, zero, ℕ, ◌&&◌, ◌+◌, ◌∙◌, ◌∷◌, ◌≡◌, ◌≢◌}
use Rattle.sqlite_store.specs.Catalog.{describes, is_about}
use Rattle.sqlite_store.specs.Db.{roots_of, trees_in}
use Rattle.sqlite_store.specs.Listing.{all_reals, all_shapes, all_trees}
use Rattle.sqlite_store.proofs.PadLemmas.{same_shown}

-- the root of the first entry with these columns
abbrev pub root_by : List Row → Value → Value → Value → Value → ℕ
root_by [] kind name table sql = 0
root_by (entry ∷ entries) kind name table sql =
    cond (same_value (column entry 1) kind && same_value (column entry 2) name && same_value (column entry 3) table && same_value (column entry 5) sql)
    (page_number (column entry 4)) (root_by entries kind name table sql)

abbrev pub root_of_row : List Row → Row → ℕ
root_of_row entries r = root_by entries (column r 1) (column r 2) (column r 3) (column r 4)

same_root : (w : Wanted) → is_present w.shape ≡ true → (entries : List Row) → root_in entries w ≡ root_by entries (column (w.row) 0) (column (w.row) 1) (column (w.row) 2) (column (w.row) 3)
unfolding describes is_about
same_root w present [] = refl
same_root w present (entry ∷ entries) = rw (present, same_root w present entries)

-- a tree that is there has one row in a list, and another has none
pub listed_is : (tree : ℕ) (w : Wanted) (s : Shape) → listed tree w s ≡ cond (is_present s) (listing tree w.row s w.reals ∷ []) []
listed_is tree w Absent = refl
listed_is tree w Table = refl
listed_is tree w (Index o) = refl
listed_is tree w Pageless = refl
listed_is tree w FrozenTable = refl
listed_is tree w (FrozenIndex o) = refl

pub listed_one : (tree : ℕ) (w : Wanted) (s : Shape) → is_present s ≡ true → listed tree w s ≡ listing tree w.row s w.reals ∷ []
listed_one tree w s there = listed_is tree w s ∙ ap (λ is. cond is (listing tree w.row s w.reals ∷ []) []) there

pub listed_none : (tree : ℕ) (w : Wanted) (s : Shape) → is_present s ≡ false → listed tree w s ≡ []
listed_none tree w s none = listed_is tree w s ∙ ap (λ is. cond is (listing tree w.row s w.reals ∷ []) []) none

module _ (entries : List Row) where
  pub root_at : (from : ℕ) (schema : List Wanted) (at t : ℕ) → t ≡ from + at → is_present (shape_at schema at) ≡ true → get_or (map (root_in entries) schema) at 0 ≡ root_of_row entries (row_for (listed_from from schema) t)
  root_at from [] at t is present = absurd (cc)
  root_at from (w ∷ schema) zero t is present =
      let same : t ≡ from = omega arith in
      let there : is_present w.shape ≡ true = present in
      rw (same, listed_one from w w.shape there, value_cmp-Int (pos (from + 1)) (pos (from + 1)), le-ltb (from + 1) (from + 1) (omega arith)) (same_root w there entries)
  root_at from (w ∷ schema) (suc at) t is present = let rest = root_at (from + 1) schema at t (omega arith) present in elim (cases_Bool (is_present w.shape)) [
    | inl there ↦ rw (listed_one from w w.shape there, value_cmp-Int (pos (from + 1)) (pos (t + 1)), lt-ltb (from + 1) (t + 1) (omega arith)) rest
    | inr none ↦ rw (listed_none from w w.shape none) rest
  ]

-- a tree's row has the code of its shape, and its REAL columns
module _ (t : ℕ) (apart : t ≢ version_tree) (other : t ≢ catalog_tree) (schema : List Wanted) where
  pub shape_is : shape_code (shape_at schema t) ≡ number_in (column (row_for (listed_from 0 schema) t) 5)
  unfolding all_shapes
  shape_is = rw (ne_eqb t version_tree apart, ne_eqb t catalog_tree other) at ((is_listed schema).shapes t other apart)

  pub reals_are : reals_if_present (shape_at schema t) (reals_at schema t) ≡ number_in (column (row_for (listed_from 0 schema) t) 6)
  unfolding all_reals
  reals_are = rw (ne_eqb t version_tree apart, ne_eqb t catalog_tree other) at ((is_listed schema).columns t other apart)

module _ (size : ℕ) (pages : PageMap) where
  one_tree : (shape : Shape) (p q x y : ℕ) → reals_if_present shape p ≡ reals_if_present shape q → (is_present shape ≡ true → x ≡ y)
      → map (shown (thawed shape) p) (rows_at size pages (thawed shape) x) ≡ map (shown (thawed shape) q) (rows_at size pages (thawed shape) y)
  one_tree Absent p q x y reals root = refl
  one_tree Table p q x y reals root = rw (root refl) (same_shown Table p q size pages y reals)
  one_tree (Index o) p q x y reals root = rw (root refl) (same_shown (Index o) p q size pages y reals)
  one_tree Pageless p q x y reals root = refl
  one_tree FrozenTable p q x y reals root = rw (root refl) (same_shown FrozenTable p q size pages y reals)
  one_tree (FrozenIndex o) p q x y reals root = rw (root refl) (same_shown (FrozenIndex o) p q size pages y reals)

  -- where the lists have rows for them that describe the same tree
  pub same_trees : (a b : List Wanted) (s t : ℕ)
      → ((entries : List Row) → root_of_row entries (row_for (listed_from 0 a) s) ≡ root_of_row entries (row_for (listed_from 0 b) t)) → shape_at a s ≡ shape_at b t
      → reals_if_present (shape_at a s) (reals_at a s) ≡ reals_if_present (shape_at b t) (reals_at b t) → trees_in size a pages s ≡ trees_in size b pages t
  unfolding trees_in roots_of
  same_trees a b s t listing shapes reals =
      let entries = rows_at size pages Table 1 in
      let roots = λ (there : is_present (shape_at b t) ≡ true).
      root_at entries 0 a s s (omega arith) (ap is_present shapes ∙ there) ∙ listing entries ∙ sym (root_at entries 0 b t t (omega arith) there) in
      rw shapes (one_tree (shape_at b t) _ _ _ _ (rw shapes at reals) roots)

pub same_reading : (size : ℕ) (a b : List Wanted) (pages : PageMap) → listed_from 0 a ≡ listed_from 0 b → file_trees size a pages ≡ file_trees size b pages
unfolding all_trees all_shapes all_reals
same_reading size a b pages listing = fun_ext (λ t. elim (cases_eq t version_tree) [
  | inl is ↦ rw (eq-eqb t version_tree is)
  | inr apart ↦ elim (cases_eq t catalog_tree) [
    | inl is ↦ rw (ne_eqb t version_tree apart, eq-eqb t catalog_tree is) listing
    | inr other ↦
        let same = same_listing a b listing in
        let shapes : shape_at a t ≡ shape_at b t = rw (ne_eqb t version_tree apart, ne_eqb t catalog_tree other) at (ap (λ f. f t) same.0) in
        let reals : reals_if_present (shape_at a t) (reals_at a t) ≡ reals_if_present (shape_at b t) (reals_at b t) =
        rw (ne_eqb t version_tree apart, ne_eqb t catalog_tree other) at (ap (λ f. f t) same.1) in
        rw (ne_eqb t version_tree apart, ne_eqb t catalog_tree other) (same_trees size (in_use size pages) a b t t (λ entries. ap (λ rows. root_of_row entries (row_for rows t)) listing) shapes reals)
  ]
])
