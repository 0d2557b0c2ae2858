-- Lines that are written one after another, from rows that rise, are those that the rows list.
use Rattle.std.proofs.Common.{◌≡◌, ◌∙◌, ℕ, Bool, true, false, ◌&&◌, ◌==◌, cond, ◌+◌, ◌<◌, length, take, get_or, Option, Some, None, List, [], ◌∷◌, ◌++◌, find, option_map, refl, sym, ap}
use Rattle.state_store.proofs.Common.{AreExpectations, Expectation, Expected, FlightDate, IsTrue, Lines, and_parts, by_expectation, is_sorted, map, no_lines, same_flight_date, same_line, take_more, with_line}
use Rattle.station_core.proofs.Asked.{apart, expectation_total, is_one, one_is, one-refl}
use Rattle.station_core.proofs.Rising.{not_found}

abbrev key : Expectation → FlightDate × ℕ
key row = (row.flight, row.awb)

abbrev Rise : List Expectation → Type 0
Rise rows = IsTrue (is_sorted by_expectation (map (λ row. (key row, row.expected)) rows))

abbrev listed : List Expectation → Lines
listed rows f w = option_map (λ row. row.expected) (find (λ row. same_flight_date f row.flight && (w == row.awb)) rows)

pub filled : Lines → List Expectation → Lines
filled lines [] = lines
filled lines (row ∷ rows) = filled (with_line lines row.flight row.awb (Some row.expected)) rows

pub filled_more : (lines : Lines) (rows : List Expectation) (row : Expectation) → filled lines (rows ++ row ∷ []) ≡ with_line (filled lines rows) row.flight row.awb (Some row.expected)
unfolding filled
filled_more lines [] row = refl
filled_more lines (r ∷ rows) row = filled_more (with_line lines r.flight r.awb (Some r.expected)) rows row

pub filled_none : filled no_lines [] ≡ no_lines
unfolding filled
filled_none = refl

pub filled_next : (rows : List Expectation) (i : ℕ) (row : Expectation) → i < length rows → row ≡ get_or rows i row
    → with_line (filled no_lines (take i rows)) row.flight row.awb (Some row.expected) ≡ filled no_lines (take (i + 1) rows)
filled_next rows i row fits read =
    sym (filled_more no_lines (take i rows) row) ∙ ap (λ r. filled no_lines (take i rows ++ r ∷ [])) read
    ∙ ap (filled no_lines) (sym (take_more rows i row fits))

abbrev or_else : Option Expected → Option Expected → Option Expected
or_else None other = other
or_else (Some line) other = Some line

one_row : (x y : Expectation) → key x ≡ key y → x.expected ≡ y.expected → x ≡ y
one_row x y same brings i = record { flight = (same i).0; awb = (same i).1; expected = brings i }

-- no row behind a row has its key
none_behind : (row : Expectation) (rows : List Expectation) → Rise (row ∷ rows) → listed rows row.flight row.awb ≡ None
none_behind row rows rise = not_found by_expectation is_one key (λ (r : Expectation). r.expected) (apart by_expectation expectation_total) one_is one-refl one_row (key row) rows (and_parts _ _ rise).0

filled_finds : (lines : Lines) (rows : List Expectation) → Rise rows → (f : FlightDate) (w : ℕ) → filled lines rows f w ≡ or_else (listed rows f w) (lines f w)
unfolding filled
filled_finds lines [] rise f w = refl
filled_finds lines (row ∷ rows) rise f w =
    filled_finds (with_line lines row.flight row.awb (Some row.expected)) rows (and_parts _ _ rise).1 f w ∙ first (same_line (f, w) (key row)) refl
  where
    first : (b : Bool) → same_line (f, w) (key row) ≡ b → or_else (listed rows f w) (with_line lines row.flight row.awb (Some row.expected) f w) ≡ or_else (listed (row ∷ rows) f w) (lines f w)
    first true at =
        let k = one_is (f, w) (key row) at in
        ap (λ o. or_else o (with_line lines row.flight row.awb (Some row.expected) f w)) (ap (λ (q : FlightDate × ℕ). listed rows q.0 q.1) k ∙ none_behind row rows rise)
        ∙ ap (λ b. cond b (Some row.expected) (lines f w)) at
        ∙ sym (ap (λ b. or_else (option_map (λ (r : Expectation). r.expected) (cond b (Some row) (find (λ r. same_flight_date f r.flight && (w == r.awb)) rows))) (lines f w)) at)
    first false at =
        ap (λ b. or_else (listed rows f w) (cond b (Some row.expected) (lines f w))) at
        ∙ sym (ap (λ b. or_else (option_map (λ (r : Expectation). r.expected) (cond b (Some row) (find (λ r. same_flight_date f r.flight && (w == r.awb)) rows))) (lines f w)) at)

nothing_else : (o : Option Expected) → or_else o None ≡ o
nothing_else None = refl
nothing_else (Some line) = refl

pub all_filled : (lines : Lines) (rows : List Expectation) → AreExpectations lines rows → filled no_lines rows ≡ lines
all_filled lines rows are i f w = (filled_finds no_lines rows are.rising f w ∙ nothing_else (listed rows f w) ∙ sym (are.same f w)) i
