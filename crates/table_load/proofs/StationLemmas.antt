-- From the rows of `station` to what the table says.
use Rattle.table_load.proofs.Common.{Database, Err, Error, FileVersion, First, Global, IfOk, Int, IsPermutation, IsUnchanged, List, Ok, Reads, Result, Row, Second, ShowsWhole, Some, State, Text, Vec, [], ap, arith, found, found_in_row, found_in_rows, found_meant, inl, int_eq, is_utf8, length, length_permutation, one_permutation, one_row, pos, refl, station_columns, station_found, station_name, station_of, sym, true, version_number, ℕ, ℤ, ◌∙◌, ◌∷◌, ◌≡◌}
use Rattle.sqlite.specs.Order.{column}
use Rattle.table_load.proofs.TableLemmas.{all_columns}
use Rattle.table_load.specs.declared.station.StationFound.{StationFound}

-- each version's own number is the one that is asked for
pub is_of_version : (v : FileVersion) → int_eq (version_number v) (version_number v) ≡ true
is_of_version First = refl
is_of_version Second = refl

pub is_one_row : (wanted : FileVersion) (r : Row) (id version confirmed : ℤ) (airport : List ℕ) → length r ≡ 4 → column r 0 ≡ Int id → column r 1 ≡ Text airport → column r 2 ≡ Int version → column r 3 ≡ Int confirmed → id ≡ pos 1 → int_eq version (version_number wanted) ≡ true → is_utf8 airport ≡ true
    → one_row airport confirmed ≡ found_in_row wanted r
is_one_row wanted r id version confirmed airport wide a b c d one asked text = rw (all_columns 4 r wide, a, b, c, d, one, asked, text)

few_same : (wanted : FileVersion) (raw rows : List Row) → IsPermutation raw rows → found_in_rows wanted rows ≡ found_in_rows wanted raw
few_same wanted [] [] h = refl
few_same wanted [] (r ∷ rows) h = absurd (let e = length_permutation [] (r ∷ rows) h in omega arith)
few_same wanted (a ∷ []) rows h = ap (found_in_rows wanted) (one_permutation a rows h)
few_same wanted (a ∷ b ∷ raw) [] h = absurd (let e = length_permutation (a ∷ b ∷ raw) [] h in omega arith)
few_same wanted (a ∷ b ∷ raw) (r ∷ []) h = absurd (let e = length_permutation (a ∷ b ∷ raw) (r ∷ []) h in omega arith)
few_same wanted (a ∷ b ∷ raw) (r ∷ s ∷ rows) h = refl

pub tells_station : (wanted : FileVersion) (db : Database) (rows : Vec Row Global) (old mid : State) → ShowsWhole (found db station_name station_columns) 1 (Some rows) × IsUnchanged old mid → (r : Result StationFound Error)
    → IfOk r (λ s. found_meant s ≡ found_in_rows wanted rows.items) → Reads old mid r (λ s. found_meant s ≡ station_of wanted db)
tells_station wanted db rows old mid h (Ok s) is = (is ∙ few_same wanted h.0.0 rows.items h.0.2 ∙ sym (ap (station_found wanted) h.0.1), h.1)
tells_station wanted db rows old mid h (Err e) is = inl h.1
