-- A walk through two lists of rows, side by side.
use Rattle.std.specs.Prelude.{ℕ, ◌==◌, Bool, not, ◌&&◌, nat_lt, length, get_or, Option, Some, None, true, false, List, [], ◌∷◌, if◌then◌else◌}
use Rattle.carried_station.specs.Common.{bytes_eq, Declared}
use Rattle.carried_station.specs.declared.waybills.WaybillRow.{WaybillRow}

-- true if two days, two declarations or two rows are the same
abbrev pub same_bool : Bool → Bool → Bool
same_bool true b = b
same_bool false b = not b

abbrev pub same_day : Option ℕ → Option ℕ → Bool
same_day None None = true
same_day (Some a) (Some b) = a == b
same_day _ _ = false

abbrev pub same_declared : Declared → Declared → Bool
same_declared a b =
    bytes_eq a.origin b.origin && (bytes_eq a.destination b.destination && ((a.pieces == b.pieces)
    && ((a.tenths == b.tenths) && (bytes_eq a.goods b.goods && (same_bool a.notified b.notified
    && same_day a.since b.since)))))

abbrev pub same_row : WaybillRow → WaybillRow → Bool
same_row a b = (a.awb == b.awb) && same_declared a.declared b.declared

abbrev pub stands_at : List WaybillRow → ℕ → WaybillRow → Bool
stands_at rows at row = nat_lt at (length rows) && same_row (get_or rows at row) row

-- the waybills of old rows that aren't among new ones, if these are the others, in order
abbrev pub and_left : ℕ → Option (List ℕ) → Option (List ℕ)
and_left w None = None
and_left w (Some left) = Some (w ∷ left)

abbrev pub left_of : List WaybillRow → List WaybillRow → Option (List ℕ)
left_of [] [] = Some []
left_of [] (next ∷ rest) = None
left_of (row ∷ rows) [] = and_left row.awb (left_of rows [])
left_of (row ∷ rows) (next ∷ rest) =
    if same_row next row then left_of rows rest
    else and_left row.awb (left_of rows (next ∷ rest))
