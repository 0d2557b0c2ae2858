-- The sums of a waybill's movements with a flight, by a pass over them; and the arrivals of a flight.
use Rattle.reports.proofs.Common.{ActFault, BookRow, Bool, Cargo, Count, Err, FlightDate, Free, Hand, HandedOut, IsOk, List, Missing, Move, Of, Ok, OnOk, Result, Surplus, [], ap, append-nil, append_assoc, arith, book_row, counted, false, false≢true, if◌then◌else◌, map, movements_for, numbered, own_moves, refl, sum_by_push, sym, tenths_of, true, true≢false, ℕ, ◌++◌, ◌+◌, ◌∙◌, ◌∷◌, ◌≡◌}
use Rattle.shipment_machine.specs.Book.{pieces_of}
use Rattle.shipment_machine.specs.declared.moves.Place.{Place}
use Rattle.reports.specs.Arrivals.{AreArrivals, TakesSum, arrival_row, is_with, next_sums, no_sums, sums_of, sums_with, with_flight}
use Rattle.reports.specs.declared.arrivals.ArrivalRow.{ArrivalRow}
use Rattle.reports.specs.declared.arrivals.ArrivalSums.{ArrivalSums}
use Rattle.station_core.specs.declared.rows.ExpectedQuery.TheVariants.{On}
use Rattle.reports.proofs.FlightLists.{one_expected}
use Rattle.reports.proofs.Passing.{moves_of}
use Rattle.reports.proofs.Stays.{own_rows}

counted_is : (b : Bool) (m : Move) (c : Count) → counted b m c ≡ record { pieces = c.pieces + (if b then pieces_of m else 0); tenths = c.tenths + (if b then tenths_of m else 0) }
counted_is true m c = refl
counted_is false m c = λ i. record { pieces = none c.pieces i; tenths = none c.tenths i }
  where
    none : (n : ℕ) → n ≡ n + 0
    none n = omega arith

-- sums with another movement
sums_more : (f : FlightDate) (from to : Place) (ms : List Move) (m : Move) → counted (is_with f from to m) m (sums_with f from to ms) ≡ sums_with f from to (ms ++ m ∷ [])
sums_more f from to ms m =
    counted_is (is_with f from to m) m (sums_with f from to ms)
    ∙ (λ i. record { pieces = sym (sum_by_push (with_flight pieces_of f from to) ms m) i; tenths = sym (sum_by_push (with_flight tenths_of f from to) ms m) i })

next_is : (f : FlightDate) (ms : List Move) (m : Move) → next_sums m (sums_of f ms) ≡ sums_of f (ms ++ m ∷ [])
next_is f ms m = λ i. record {
  flight = f;
  came = sums_more f Hand Free ms m i;
  missing = sums_more f Hand Missing ms m i;
  surplus = sums_more f Surplus Free ms m i;
  is_full = false;
}

all_summed : (f : FlightDate) (rows : List BookRow) (ms : List Move) (old new : ArrivalSums) → old ≡ sums_of f ms → HandedOut (λ from row go to. TakesSum from row.movement go to) rows old new → new.is_full ≡ false
    → new ≡ sums_of f (ms ++ moves_of rows)
all_summed f [] ms old new are h room = h ∙ are ∙ ap (sums_of f) (sym (append-nil ms))
all_summed f (row ∷ rows) ms old new are (true, mid, took, more) room =
    let m : Move = row.movement in
    all_summed f rows (ms ++ m ∷ []) mid new (took ∙ ap (next_sums m) are ∙ next_is f ms m) more room ∙ ap (sums_of f) (append_assoc ms (m ∷ []) (moves_of rows))
all_summed f (row ∷ rows) ms old new are (false, mid, took, more) room = absurd (true≢false (sym took ∙ sym (ap (λ (t : ArrivalSums). t.is_full) more) ∙ room))

-- what a reader found, if there was room
pub sums_known : (f : FlightDate) (w : ℕ) (book : List Move) (read : Result (Unit {0}) ActFault) (old new : ArrivalSums) → old ≡ no_sums f
    → OnOk read ((rows : List BookRow) × (rows ≡ movements_for (Of w) (numbered book_row 1 book)) × HandedOut (λ from row go to. TakesSum from row.movement go to) rows old new)
    → IsOk read → new.is_full ≡ false → new ≡ sums_of f (own_moves book w)
sums_known f w book (Ok x) old new start (rows, are, handed) is room =
    all_summed f rows [] old new start handed room ∙ ap (sums_of f) (ap moves_of are ∙ own_rows w 1 book)
sums_known f w book (Err e) old new start took is room = absurd (false≢true is)

-- a flight's arrivals are one list
pub one_arrivals : (f : FlightDate) (s : Cargo) (xs ys : List ArrivalRow) → AreArrivals s f xs → AreArrivals s f ys → xs ≡ ys
one_arrivals f s xs ys (expected, are, is) (others, too, is_too) = is ∙ ap (map (arrival_row s.book)) (one_expected (On f) s expected others are too) ∙ sym is_too
