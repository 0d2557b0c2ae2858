-- The rows that list the trees with some numbers, one tree at a time.
use Rattle.std.proofs.Common.{◌≡◌, ◌≢◌, ◌<◌, ◌≤◌, ℕ, ◌+◌, ◌∙◌, zero, suc, pos, List, [], ◌∷◌, ◌++◌, length, find, get_or, option_map, Option, None, Some, inl, inr, refl, arith, le-ltb, lt-ltb, ltb, ltb-false}
use Rattle.std.proofs.lemmas.Bool.{cases_Bool}
use Rattle.sqlite_trees.specs.Tree.{has_rowid}
use Rattle.sqlite_value.specs.Order.{Row}
use Rattle.sqlite_value.proofs.OrderLemmas.{value_cmp-Int}
use Rattle.shown_trees.specs.Shown.{renumbered, rows_from, shown_row}

-- the row of another tree is passed over
passed : (from id : ℕ) (shown : Option Row) (rows : List Row) → from + 1 ≢ id → find (has_rowid (pos id)) (shown_row from shown ++ rows) ≡ find (has_rowid (pos id)) rows
passed from id None rows other = refl
passed from id (Some row) rows other = elim (cases_Bool (ltb (from + 1) id)) [
  | inl low ↦ rw (value_cmp-Int (pos (from + 1)) (pos id), low) refl
  | inr high ↦ let h = ltb-false (from + 1) id high in rw (value_cmp-Int (pos (from + 1)) (pos id), high, lt-ltb id (from + 1) (omega arith)) refl
]

not_earlier : (from id : ℕ) (numbers : List ℕ) (rows : List Row) → id ≤ from → find (has_rowid (pos id)) (rows_from from numbers rows) ≡ None
not_earlier from id [] rows below = refl
not_earlier from id (n ∷ numbers) rows below =
    passed from id (find (has_rowid (pos (n + 1))) rows) _ (omega arith) ∙ not_earlier (from + 1) id numbers rows (omega arith)

-- a tree's row is the one with its number
pub found_own : (from at t : ℕ) (numbers : List ℕ) (rows : List Row) → t ≡ from + at → at < length numbers
    → find (has_rowid (pos (t + 1))) (rows_from from numbers rows) ≡ option_map (renumbered t) (find (has_rowid (pos (get_or numbers at 0 + 1))) rows)
found_own from at t [] rows is low = absurd (omega arith)
found_own from zero t (n ∷ numbers) rows is low = let same : t ≡ from = omega arith in rw same (go (find (has_rowid (pos (n + 1))) rows) (not_earlier (from + 1) (from + 1) numbers rows (omega arith)))
  where
    go : (o : Option Row) → find (has_rowid (pos (from + 1))) (rows_from (from + 1) numbers rows) ≡ None
        → find (has_rowid (pos (from + 1))) (shown_row from o ++ rows_from (from + 1) numbers rows) ≡ option_map (renumbered from) o
    go None none = none
    go (Some row) none = rw (value_cmp-Int (pos (from + 1)) (pos (from + 1)), le-ltb (from + 1) (from + 1) (omega arith)) refl
found_own from (suc at) t (n ∷ numbers) rows is low =
    passed from (t + 1) (find (has_rowid (pos (n + 1))) rows) _ (omega arith) ∙ found_own (from + 1) at t numbers rows (omega arith) (omega arith)

-- no other tree has a row
pub found_none : (from t : ℕ) (numbers : List ℕ) (rows : List Row) → from + length numbers ≤ t → find (has_rowid (pos (t + 1))) (rows_from from numbers rows) ≡ None
found_none from t [] rows high = refl
found_none from t (n ∷ numbers) rows high =
    passed from (t + 1) (find (has_rowid (pos (n + 1))) rows) _ (omega arith) ∙ found_none (from + 1) t numbers rows (omega arith)
