-- Two lists of a file's trees, each of which lists those of a station, list the same rows.
use Rattle.station_files.proofs.Common.{AreLow, Has, Int, IsFile, List, Lists, ListsStation, None, Object, Option, PageMap, Row, Some, Table, Wanted, [], and_parts, ap, arith, cases_Bool, column, get_or, in_use, inl, inr, length, listed_from, ltb, ltb-false, ltb-true, map, name_of, number_in, pos, refl, rowid, rows_at, rows_from, slice_get, station_schema, subst, suc, sym, wanted_of, zero, ℕ, ◌+◌, ◌<◌, ◌∙◌, ◌∷◌, ◌≡◌, ◌≤◌}
use Rattle.station_files.proofs.EntryNames.{entry_of, says_the_same, IsWorded}
use Rattle.station_files.proofs.StationRows.{has_shown, has_tree, listed_within, named, object_row, row_at, rows_same, shown_has, shows, IsNamed}

same_place : (a b : ℕ) (row : Row) → rowid row ≡ Int (pos (a + 1)) → rowid row ≡ Int (pos (b + 1)) → a ≡ b
same_place a b row p q = omega (arith, ap number_in (sym p ∙ q))

within : (objects : List Object) (t : ℕ) (name : List ℕ × ℕ × ℕ) → slice_get (map name_of objects) t ≡ Some name → t < length objects
within [] t name h = absurd (cc)
within (o ∷ objects) zero name h = omega arith
within (o ∷ objects) (suc t) name h = omega (arith, within objects t name h)

-- rows that are shown under one number, of two lists of a file's trees, are the same if their
-- names, shapes and REAL columns are
module _ (size : ℕ) (pages : PageMap) (xs ys : List Wanted) (one : IsFile size xs pages) (two : IsFile size ys pages) where
  same_row : (m n at : ℕ) (a b : List ℕ) (first second : Row) (name : List ℕ × ℕ × ℕ) → AreLow a → AreLow b → row_at 0 a (listed_from 0 xs) at ≡ Some first → row_at 0 b (listed_from 0 ys) at ≡ Some second
      → IsNamed m name first → IsNamed n name second → (0 < name.1) × (name.1 < 3) → IsWorded first → second ≡ first
  same_row m n at a b first second name low_a low_b x y named_x named_y paged words =
      let s = shows 0 a (listed_from 0 xs) at first x in
      let t = shows 0 b (listed_from 0 ys) at second y in
      let entries = rows_at size (in_use size pages) Table 1 in
      let p = λ (f : Row → ℕ). sym (ap f s.is) in
      let q = λ (f : Row → ℕ). sym (ap f t.is) in
      let shape_s : number_in (column s.inner 5) ≡ name.1 = p (λ r. number_in (column r 5)) ∙ named_x.shape_is in
      let shape_t : number_in (column t.inner 5) ≡ name.1 = q (λ r. number_in (column r 5)) ∙ named_y.shape_is in
      let reals_s : number_in (column s.inner 6) ≡ name.2 = p (λ r. number_in (column r 6)) ∙ named_x.reals_are in
      let reals_t : number_in (column t.inner 6) ≡ name.2 = q (λ r. number_in (column r 6)) ∙ named_y.reals_are in
      let name_s = sym (ap (λ (r : Row). column r 2) s.is) ∙ named_x.name_is in
      let name_t = sym (ap (λ (r : Row). column r 2) t.is) ∙ named_y.name_is in
      let inner_words : IsWorded s.inner = record { kind = (subst IsWorded s.is words).kind; name = (subst IsWorded s.is words).name; table = (subst IsWorded s.is words).table; sql = (subst IsWorded s.is words).sql } in
      let e = entry_of size xs pages one (get_or a at 0) s.inner (low_a at s.within) s.found (omega (arith, shape_s, paged.0)) (omega (arith, shape_s, paged.1)) in
      let f = entry_of size ys pages two (get_or b at 0) t.inner (low_b at t.within) t.found (omega (arith, shape_t, paged.0)) (omega (arith, shape_t, paged.1)) in
      let same = says_the_same entries s.inner t.inner name.0 (and_parts _ _ one.db.known).1 inner_words name_s name_t e f in
      t.is ∙ rw (same.kind, same.name, same.table, same.sql, shape_t ∙ sym shape_s, reals_t ∙ sym reals_s) refl ∙ sym s.is

  module _ (objects : List Object) (names : ListsStation objects) (a b : List ℕ) (low_a : AreLow a) (low_b : AreLow b)
      (lists : rows_from 0 a (listed_from 0 xs) ≡ listed_from 0 (map wanted_of objects)) (sound : Lists (rows_from 0 b (listed_from 0 ys)) station_schema) where
    abbrev first : List Row
    first = listed_from 0 xs

    abbrev second : List Row
    second = listed_from 0 ys

    here : (at : ℕ) → at < length objects → row_at 0 b second at ≡ row_at 0 a first at
    here at low =
        let mine = has_tree (rows_from 0 b second) objects names sound at low in
        let shown = has_shown 0 b second mine.0 mine.1 in
        let place : shown.0 ≡ at = omega (arith, same_place (0 + shown.0) at mine.0 shown.2 mine.2) in
        let is = named (rows_from 0 b second) objects names sound mine.0 mine.1 in
        let tree : is.tree ≡ at = same_place is.tree at mine.0 is.is.id mine.2 in
        let object = object_row 0 at objects is.name (subst (λ t. slice_get (map name_of objects) t ≡ Some is.name) tree is.at) is.paged.0 in
        let theirs = has_shown 0 a first object.row (subst (λ rows. Has rows object.row) (sym lists) object.there) in
        let there : theirs.0 ≡ at = omega (arith, same_place (0 + theirs.0) (0 + at) object.row theirs.2 object.named.id) in
        let x : row_at 0 a first at ≡ Some object.row = subst (λ t. row_at 0 a first t ≡ Some object.row) there theirs.1 in
        let y : row_at 0 b second at ≡ Some mine.0 = subst (λ t. row_at 0 b second t ≡ Some mine.0) place shown.1 in
        y ∙ ap Some (same_row (0 + at) is.tree at a b object.row mine.0 is.name low_a low_b x y object.named is.is is.paged object.words) ∙ sym x

    past : (at : ℕ) → length objects ≤ at → row_at 0 b second at ≡ row_at 0 a first at
    past at high = none_b (row_at 0 b second at) refl ∙ sym (none_a (row_at 0 a first at) refl)
      where
        none_a : (o : Option Row) → row_at 0 a first at ≡ o → o ≡ None
        none_a None is = refl
        none_a (Some row) is =
            let s = shows 0 a first at row is in
            let found = listed_within 0 objects row (subst (λ rows. Has rows row) lists (shown_has 0 a first at row is)) in
            absurd (omega (arith, high, found.1, same_place _ _ row found.2 (ap rowid s.is)))

        none_b : (o : Option Row) → row_at 0 b second at ≡ o → o ≡ None
        none_b None is = refl
        none_b (Some row) is =
            let s = shows 0 b second at row is in
            let there = named (rows_from 0 b second) objects names sound row (shown_has 0 b second at row is) in
            absurd (omega (arith, high, within objects there.tree there.name there.at, same_place _ _ row there.is.id (ap rowid s.is)))

    pub same_rows : rows_from 0 b second ≡ listed_from 0 (map wanted_of objects)
    same_rows = rows_same 0 b a second first (λ at. elim (cases_Bool (ltb at (length objects))) [
      | inl low ↦ here at (ltb-true at (length objects) low)
      | inr high ↦ past at (ltb-false at (length objects) high)
    ]) ∙ lists
