-- What the readers hand out in the worked rows, computed.
use Rattle.station_core.proofs.Common.{Confirm, Free, Hand, List, None, Option, Some, [], book_by, book_rows, codes, false, irregular_rows, length, map, opening, pending_messages, refl, shed_rows, trail_by, waybill_of, ℕ, ◌∷◌, ◌≡◌}
use Rattle.std.specs.Fmt.{digits}
use Rattle.jiff_core.specs.Calendar.{days_of_years, days_of_months, day_count, days_from_civil}
use Rattle.shipment_machine.specs.Book.{amount}
use Rattle.shipment_machine.specs.declared.moves.Amount.{Amount}
use Rattle.station_core.specs.declared.rows.BookQuery.{BookQuery}
use Rattle.station_core.specs.declared.rows.BookQuery.TheVariants.{After, Last, Of, On}
use Rattle.station_core.specs.declared.rows.TrailQuery.{TrailQuery}
use Rattle.station_core.specs.declared.rows.TrailQuery.TheVariants as trail
use Rattle.station_core.specs.declared.rows.Message.{Message}
use Rattle.station_core.specs.declared.rows.Waybill.{Waybill}
use Rattle.desk_commands.specs.Command.{day_line}
use Rattle.station_core.proofs.Examples.{fra, jfk, received, loaded, left, after, announced, counted, desk, at_time, lh_on, fsu}

-- three pieces are missing
example_irregular : irregular_rows (after announced (counted 7 (codes "c") ∷ [])).cargo
    ≡ record { awb = 201234567; origin = fra; destination = jfk; missing = amount 3 300; found = amount 0 0 } ∷ []
unfolding digits day_line days_of_years days_of_months day_count days_from_civil
example_irregular = refl

-- four of ten pieces are built, and then they have left
example_shed : shed_rows loaded.cargo ≡ record { awb = 201234567; origin = fra; destination = jfk; free = amount 6 600; built = amount 4 400; notified = false } ∷ []
unfolding digits day_line
example_shed = refl

example_shed_left : shed_rows left.cargo ≡ record { awb = 201234567; origin = fra; destination = jfk; free = amount 6 600; built = amount 0 0; notified = false } ∷ []
unfolding digits day_line
example_shed_left = refl

-- what is announced isn't in store
example_shed_announced : shed_rows announced.cargo ≡ []
unfolding digits day_line days_of_years days_of_months day_count days_from_civil
example_shed_announced = refl

-- the first line of the movement book
example_book : book_rows received.cargo ≡ record { number = 1; movement = record { awb = 201234567; from = Hand; to = Free; pieces = 10; tenths = 1000; flight = None; at = at_time 10 30 } } ∷ []
unfolding digits day_line
example_book = refl

-- ten pieces were received, four were built on LH400, and these left
abbrev numbers_in : BookQuery → List ℕ
numbers_in query = map (λ row. row.number) (book_by query left.cargo)

example_of : numbers_in (Of 201234567) ≡ 1 ∷ 2 ∷ 3 ∷ []
unfolding digits day_line
example_of = refl

example_of_another : numbers_in (Of 201234568) ≡ []
unfolding digits day_line
example_of_another = refl

example_after_one : numbers_in (After 1) ≡ 2 ∷ 3 ∷ []
unfolding digits day_line
example_after_one = refl

example_after_the_last : numbers_in (After 3) ≡ []
unfolding digits day_line
example_after_the_last = refl

example_last : numbers_in (Last 2) ≡ 2 ∷ 3 ∷ []
unfolding digits day_line
example_last = refl

example_last_of_fewer : numbers_in (Last 4) ≡ 1 ∷ 2 ∷ 3 ∷ []
unfolding digits day_line
example_last_of_fewer = refl

example_on : numbers_in (On (lh_on 400)) ≡ 2 ∷ 3 ∷ []
unfolding digits day_line
example_on = refl

example_on_another : numbers_in (On (lh_on 401)) ≡ []
unfolding digits day_line
example_on_another = refl

-- two status messages arrived
abbrev lines_in : TrailQuery → List ℕ
lines_in query = map (λ row. row.number) (trail_by query (after received (fsu (codes "FSU/12 a") 201234567 ∷ fsu (codes "FSU/12 b") 201234567 ∷ [])).cargo)

example_trail : lines_in (trail.Of 201234567) ≡ 1 ∷ 2 ∷ []
unfolding digits day_line
example_trail = refl

example_trail_of_another : lines_in (trail.Of 201234568) ≡ []
unfolding digits day_line
example_trail_of_another = refl

example_trail_after : lines_in (trail.After 1) ≡ 2 ∷ []
unfolding digits day_line
example_trail_after = refl

example_trail_last : lines_in (trail.Last 1) ≡ 2 ∷ []
unfolding digits day_line
example_trail_last = refl

-- after three messages are confirmed the fourth is pending, of 74 bytes
abbrev length_of : Message → ℕ × ℕ
length_of message = (message.number, length message.text)

example_pending : map length_of (pending_messages (after left (desk (codes "c1") (Confirm 3) ∷ [])).cargo) ≡ (4, 74) ∷ []
unfolding digits day_line
example_pending = refl

-- what is said of the waybill after the flight left
abbrev amounts : Option Waybill → List Amount
amounts None = []
amounts (Some w) = w.taken ∷ w.found ∷ w.store ∷ w.departed ∷ w.delivered ∷ w.missing ∷ w.transferred ∷ []

example_waybill : amounts (waybill_of left.cargo 201234567) ≡ amount 10 1000 ∷ amount 0 0 ∷ amount 6 600 ∷ amount 4 400 ∷ amount 0 0 ∷ amount 0 0 ∷ amount 0 0 ∷ []
unfolding digits day_line
example_waybill = refl

example_no_waybill : waybill_of left.cargo 201234568 ≡ None
unfolding digits day_line
example_no_waybill = refl

-- a fresh station has nothing to hand out
example_nothing : irregular_rows (opening fra).cargo ≡ []
example_nothing = refl
