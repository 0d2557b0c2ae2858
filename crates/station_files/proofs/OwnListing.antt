-- Rows that list the trees that are asked for, one place at a time.
use Rattle.std.proofs.lemmas.List.{get_or-take}
use Rattle.station_files.proofs.SameReading.{listed_one}
use Rattle.station_files.proofs.Common.{Int, IsListed, List, None, Null, Object, Option, Row, Shape, Some, Value, [], ap, ap₂, arith, cases_Bool, column, cond, find, get_or, has_rowid, inl, inr, is_eq, is_known, is_present, length, list_all, listed, listed_from, ltb, ltb-false, ltb-true, map, number_in, option_map, pos, refl, rows_from, shape_code, shown_row, slice_get, suc, sym, take, true, unwrap_or, value_cmp, wanted_of, zero, ℕ, ℤ, ◌&&◌, ◌++◌, ◌+◌, ◌-◌, ◌<◌, ◌∙◌, ◌∷◌, ◌≡◌}

-- the first five columns of a row
pub column_taken : (row : Row) (at : ℕ) → at < 5 → column (take 5 row) at ≡ column row at
column_taken row at low = get_or-take 5 row at Null low

pub find_taken : (id : ℤ) (rows : List Row) → find (has_rowid id) (map (take 5) rows) ≡ option_map (take 5) (find (has_rowid id) rows)
find_taken id [] = refl
find_taken id (r ∷ rows) =
    let same : has_rowid id (take 5 r) ≡ has_rowid id r = ap (λ (v : Value). is_eq (value_cmp v (Int id))) (column_taken r 0 (omega arith)) in
    elim (cases_Bool (has_rowid id r)) [ inl is ↦ rw (same, is) refl | inr other ↦ rw (same, other) (find_taken id rows) ]

abbrev four : Row → Row
four listed = column listed 1 ∷ column listed 2 ∷ column listed 3 ∷ column listed 4 ∷ []

pub four_taken : (row : Row) → four (take 5 row) ≡ four row
four_taken entry = rw (column_taken entry 1 (omega arith), column_taken entry 2 (omega arith), column_taken entry 3 (omega arith), column_taken entry 4 (omega arith)) refl

abbrev described_as : ℕ → Row → ℕ → ℕ → Row
described_as tree described code reals =
    Int (pos (tree + 1)) ∷ column described 0 ∷ column described 1 ∷ column described 2 ∷ column described 3 ∷ Int (pos code) ∷ Int (pos reals) ∷ []

module _ (objects : List Row) (shape : ℕ → Shape) (reals : ℕ → ℕ) (all : IsListed objects shape reals) (number : ℕ) (small : number < 4294967296) where
  pub is_listed_there : (o : Object) (row : Row) (tree : ℕ) → find (has_rowid (pos (number + 1))) (map (take 5) objects) ≡ Some row → four row ≡ (wanted_of o).row
      → is_present o.shape ≡ true → shape number ≡ o.shape → reals number ≡ o.reals
      → shown_row tree (find (has_rowid (pos (number + 1))) objects) ≡ listed tree (wanted_of o) o.shape
  is_listed_there o row tree finds same there shaped typed = go (find (has_rowid (pos (number + 1))) objects) refl (sym (find_taken (pos (number + 1)) objects) ∙ finds)
    where
      go : (found : Option Row) → find (has_rowid (pos (number + 1))) objects ≡ found → option_map (take 5) found ≡ Some row → shown_row tree found ≡ listed tree (wanted_of o) o.shape
      go None is never = absurd (cc)
      go (Some r) is taken =
          let here : take 5 r ≡ row = (let e = taken in cc) in
          let described : four r ≡ (wanted_of o).row = sym (four_taken r) ∙ ap four here ∙ same in
          let listed_as : unwrap_or (find (has_rowid (pos (number + 1))) objects) [] ≡ r = ap (λ (x : Option Row). unwrap_or x []) is in
          let code : number_in (column r 5) ≡ shape_code o.shape =
          ap (λ (x : Row). number_in (column x 5)) (sym listed_as) ∙ sym (all.shapes number (omega arith) (omega arith)) ∙ ap shape_code shaped in
          let columns : number_in (column r 6) ≡ o.reals =
          ap (λ (x : Row). number_in (column x 6)) (sym listed_as) ∙ sym (all.columns number (omega arith) (omega arith)) ∙ typed in
          ap (λ (d : Row). described_as tree d (number_in (column r 5)) (number_in (column r 6)) ∷ []) described
          ∙ ap₂ (λ c k. described_as tree (wanted_of o).row c k ∷ []) code columns ∙ sym (listed_one tree (wanted_of o) o.shape there)

  pub is_missing_there : (tree : ℕ) → find (has_rowid (pos (number + 1))) (map (take 5) objects) ≡ None → shown_row tree (find (has_rowid (pos (number + 1))) objects) ≡ []
  is_missing_there tree none = go (find (has_rowid (pos (number + 1))) objects) (sym (find_taken (pos (number + 1)) objects) ∙ none)
    where
      go : (found : Option Row) → option_map (take 5) found ≡ None → shown_row tree found ≡ []
      go None none = refl
      go (Some r) never = absurd (cc)

-- the tree at this place is listed as it is asked for, or not made yet
abbrev pub IsPlaced : List Row → ℕ → ℕ → ℕ → Object → Type 0
IsPlaced rows made tree number o = shown_row tree (find (has_rowid (pos (number + 1))) rows) ≡ cond (ltb tree made) (listed tree (wanted_of o) o.shape) []

pub all_placed : (rows : List Row) (made from : ℕ) (numbers : List ℕ) (objects : List Object) → length numbers ≡ length objects
    → ((at tree : ℕ) (o : Object) → tree ≡ from + at → at < length objects → slice_get objects at ≡ Some o → IsPlaced rows made tree (get_or numbers at 0) o)
    → rows_from from numbers rows ≡ listed_from from (map wanted_of (take (made - from) objects))
all_placed rows made from [] [] same placed = nothing (made - from)
  where
    nothing : (n : ℕ) → [] ≡ listed_from from (map wanted_of (take n []))
    nothing zero = refl
    nothing (suc n) = refl
all_placed rows made from [] (o ∷ objects) same placed = absurd (omega arith)
all_placed rows made from (n ∷ numbers) [] same placed = absurd (omega arith)
all_placed rows made from (n ∷ numbers) (o ∷ objects) same placed =
    let rest = all_placed rows made (from + 1) numbers objects (omega arith) (λ at tree p is within found. placed (suc at) tree p (omega arith) (omega arith) found) in
    let head = placed 0 from o (omega arith) (omega arith) refl in
    let joins = λ (shown first : List Row) (later : List Row) (is : shown ≡ first) (more : rows_from (from + 1) numbers rows ≡ later). ap₂ (λ (xs ys : List Row). xs ++ ys) is more in
    elim (cases_Bool (ltb from made)) [
      | inl low ↦
          let here = ltb-true from made low in
          let count : made - from ≡ suc (made - (from + 1)) = omega arith in
          rw count (joins _ _ _ (rw low at head) rest)
      | inr high ↦
          let past = ltb-false from made high in
          let none : made - from ≡ 0 = omega arith in
          let later : made - (from + 1) ≡ 0 = omega arith in
          rw none (joins _ _ _ (rw high at head) (rw later at rest))
    ]

known_row : (objects : List Object) (numbers : List ℕ) (row : Row) → is_known objects numbers (take 5 row) ≡ is_known objects numbers row
known_row objects numbers entry = rw (column_taken entry 0 (omega arith), column_taken entry 2 (omega arith), column_taken entry 3 (omega arith)) refl

pub known_taken : (objects : List Object) (numbers : List ℕ) (rows : List Row) → list_all (is_known objects numbers) (map (take 5) rows) ≡ list_all (is_known objects numbers) rows
known_taken objects numbers [] = refl
known_taken objects numbers (r ∷ rows) = ap₂ (λ a b. a && b) (known_row objects numbers r) (known_taken objects numbers rows)
