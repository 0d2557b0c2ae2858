-- Arrivals of a flight: what manifests announced with it, and what its check-in counted.
use Rattle.std.specs.Prelude.{ℕ, List, ◌+◌, ◌==◌, ◌&&◌, Bool, true, false, map, ◌≡◌, if◌then◌else◌, not}
use Rattle.reports.specs.Common.{sum_by, amount, pieces_of, same_place, tenths_of, Amount, Cargo, FlightDate, Move, Place, Hand, Free, Missing, Surplus, ExpectedRow, AreExpectedBy, is_named}
use Rattle.station_core.specs.declared.rows.ExpectedQuery.TheVariants.{On}
use Rattle.reports.specs.Passes.{counted, own_moves, zero}
use Rattle.reports.specs.declared.arrivals.ArrivalRow.{ArrivalRow}
use Rattle.reports.specs.declared.arrivals.ArrivalState.{ArrivalState}
use Rattle.reports.specs.declared.arrivals.ArrivalState.TheVariants as state
use Rattle.reports.specs.declared.arrivals.ArrivalSums.{ArrivalSums}
use Rattle.reports.specs.declared.tallies.Count.{Count}

-- a movement between two places that names the flight
abbrev pub is_with : FlightDate → Place → Place → Move → Bool
is_with f from to m = is_named f m.flight && same_place from m.from && same_place to m.to

abbrev pub with_flight : (Move → ℕ) → FlightDate → Place → Place → Move → ℕ
with_flight measure f from to m = if is_with f from to m then measure m else 0

-- the sum of such movements
abbrev pub moved_with : List Move → FlightDate → Place → Place → Amount
moved_with moves f from to = amount (sum_by (with_flight pieces_of f from to) moves) (sum_by (with_flight tenths_of f from to) moves)

-- An announced waybill on its flight. Only a check-in takes pieces over with a flight's name: what
-- came of the announced amount, and what was missing. The surplus is what its check-in counted beyond
-- that amount, and what `found` recorded with the flight's name: the movements are alike.
abbrev pub arrival_of : List Move → ExpectedRow → ArrivalRow
arrival_of moves row = record {
  expected = row;
  came = moved_with moves row.expectation.flight Hand Free;
  missing = moved_with moves row.expectation.flight Hand Missing;
  surplus = moved_with moves row.expectation.flight Surplus Free;
}

abbrev pub arrival_row : List Move → ExpectedRow → ArrivalRow
arrival_row book row = arrival_of (own_moves book row.expectation.awb) row

-- a check-in counts each announced piece as come or as missing; a row that is marked as checked, and
-- of which none was counted, was struck
abbrev pub arrival_state : ArrivalRow → ArrivalState
arrival_state row =
    if not row.expected.expectation.expected.checked then state.Open
    else if row.came.pieces + row.missing.pieces == 0 then state.Struck
    else state.Checked

-- the announced waybills of a flight, in the order of the expectations
abbrev pub AreArrivals : Cargo → FlightDate → List ArrivalRow → Type 0
AreArrivals s f rows = (expected : List ExpectedRow) × AreExpectedBy (On f) s expected × (rows ≡ map (arrival_row s.book) expected)

-- The sums of one waybill's movements, made in one pass.

abbrev pub no_sums : FlightDate → ArrivalSums
no_sums f = record { flight = f; came = zero; missing = zero; surplus = zero; is_full = false }

abbrev pub sums_with : FlightDate → Place → Place → List Move → Count
sums_with f from to moves = record { pieces = sum_by (with_flight pieces_of f from to) moves; tenths = sum_by (with_flight tenths_of f from to) moves }

abbrev pub sums_of : FlightDate → List Move → ArrivalSums
sums_of f moves = record {
  flight = f;
  came = sums_with f Hand Free moves;
  missing = sums_with f Hand Missing moves;
  surplus = sums_with f Surplus Free moves;
  is_full = false;
}

abbrev pub row_by : ExpectedRow → ArrivalSums → ArrivalRow
row_by row t = record {
  expected = row;
  came = amount t.came.pieces t.came.tenths;
  missing = amount t.missing.pieces t.missing.tenths;
  surplus = amount t.surplus.pieces t.surplus.tenths;
}

abbrev pub next_sums : Move → ArrivalSums → ArrivalSums
next_sums m t = record t {
  came = counted (is_with t.flight Hand Free m) m t.came;
  missing = counted (is_with t.flight Hand Missing m) m t.missing;
  surplus = counted (is_with t.flight Surplus Free m) m t.surplus;
}

-- a movement is added, or it doesn't fit
abbrev pub TakesSum : ArrivalSums → Move → Bool → ArrivalSums → Type 0
TakesSum old m true new = new ≡ next_sums m old
TakesSum old m false new = new.is_full ≡ true
