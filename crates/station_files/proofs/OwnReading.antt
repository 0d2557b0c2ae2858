-- The trees with some numbers are read as the list of them alone reads them.
use Rattle.station_files.proofs.Common.{Absent, List, PageMap, Row, Wanted, [], ap, arith, catalog_tree, column, eq-eqb, file_trees, fun_ext, get_or, in_use, inl, inr, kind_of, le-ltb, length, listed_from, lt-ltb, ne_eqb, number_in, own_trees, refl, renumbered, row_for, rows_from, shape_at, sym, version_tree, ℕ, ◌<◌, ◌∙◌, ◌≡◌, ◌≢◌, ◌≤◌}
use Rattle.sqlite_trees.specs.Listing.{same_code}
use Rattle.sqlite_store.specs.Db.{trees_in}
use Rattle.sqlite_store.specs.Listing.{all_trees}
use Rattle.shown_trees.proofs.Laws.{says, says_nothing}
use Rattle.station_files.proofs.SameReading.{reals_are, root_of_row, same_trees, shape_is}

module _ (size : ℕ) (numbers : List ℕ) (few : length numbers < 65536) (low : (t : ℕ) → t < length numbers → get_or numbers t 0 < 65536) (wanted own : List Wanted) (pages : PageMap)
    (lists : rows_from 0 numbers (listed_from 0 wanted) ≡ listed_from 0 own) where
  -- what a row says of its tree it says under the new number
  said : {X : Type 0} (f : Row → X) (t : ℕ) → t < length numbers → ((row : Row) → f (renumbered t row) ≡ f row)
      → f (row_for (listed_from 0 wanted) (get_or numbers t 0)) ≡ f (row_for (listed_from 0 own) t)
  said f t here same = says numbers few (listed_from 0 wanted) f t here same ∙ ap (λ rows. f (row_for rows t)) lists

  module _ (t : ℕ) (apart : t ≢ version_tree) (other : t ≢ catalog_tree) where
    read_none : length numbers ≤ t → trees_in size own (in_use size pages) t ≡ []
    unfolding trees_in
    read_none high =
        let none = says_nothing numbers few (listed_from 0 wanted) (λ (r : Row). number_in (column r 5)) t high ∙ ap (λ rows. number_in (column (row_for rows t) 5)) lists in
        let absent : shape_at own t ≡ Absent = same_code _ _ (shape_is t apart other own ∙ sym none) in
        rw absent

  read_alike : (t : ℕ) → t < length numbers → trees_in size wanted (in_use size pages) (get_or numbers t 0) ≡ trees_in size own (in_use size pages) t
  read_alike t here =
      let n = get_or numbers t 0 in
      let small = low t here in
      same_trees size (in_use size pages) wanted own n t (λ entries. said (root_of_row entries) t here (λ row. refl))
      (same_code _ _ (shape_is n (omega arith) (omega arith) wanted ∙ said (λ (r : Row). number_in (column r 5)) t here (λ row. refl) ∙ sym (shape_is t (omega arith) (omega arith) own)))
      (reals_are n (omega arith) (omega arith) wanted ∙ said (λ (r : Row). number_in (column r 6)) t here (λ row. refl) ∙ sym (reals_are t (omega arith) (omega arith) own))

  pub own_reading : own_trees numbers (file_trees size wanted pages) ≡ file_trees size own pages
  unfolding all_trees
  own_reading = fun_ext (λ t. elim (kind_of numbers t) [
    | inl is ↦ rw (eq-eqb t version_tree is)
    | inr (inl is) ↦ rw (ne_eqb t version_tree (omega (arith, is)), eq-eqb t catalog_tree is) lists
    | inr (inr (inl here)) ↦
        let small = low t here in
        rw (ne_eqb t version_tree (omega arith), ne_eqb t catalog_tree (omega arith), lt-ltb t (length numbers) here, ne_eqb (get_or numbers t 0) version_tree (omega arith), ne_eqb (get_or numbers t 0) catalog_tree (omega arith))
        (read_alike t here)
    | inr (inr (inr past)) ↦
        rw (ne_eqb t version_tree past.other, ne_eqb t catalog_tree past.apart, le-ltb t (length numbers) past.high) (sym (read_none t past.other past.apart past.high))
  ])
