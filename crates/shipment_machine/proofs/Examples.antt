-- The worked rows of the cargo commands, computed.
use Rattle.shipment_machine.proofs.Common.{Amount, Built, Cargo, Declared, Delivered, Err, FlightDate, Free, Hand, InboundLine, List, LocalMinute, Missing, Move, None, Ok, Option, Outcome, Place, Refusal, Result, ShipmentCommand, Some, Surplus, Transferred, [], amount, amount_text, built, carried_out, codes, delivered, departed, effect, expected_amount, false, found, free, map, missing, opening_cargo, refl, store, taken, transferred, true, ℕ, ◌*◌, ◌++◌, ◌+◌, ◌∷◌, ◌≡◌}
use Rattle.std.specs.Fmt.{digits}
use Rattle.shipment_machine.specs.Effect.{refused_with}
use Rattle.jiff_core.specs.Calendar.{days_of_years, days_of_months, day_count, days_from_civil}
use Rattle.imp_fields.specs.Fields.{Designator}
use Rattle.station_days.specs.Date.{day_line}
use Rattle.imp_fields.specs.declared.fault.Why.TheVariants as why
use Rattle.shipment_machine.specs.declared.notice.Notice.{Notice}
use Rattle.shipment_machine.specs.declared.notice.Notice.TheVariants as notice
use Rattle.shipment_machine.specs.declared.notice.Event.{Event}
use Rattle.shipment_machine.specs.declared.notice.Event.TheVariants as event
use Rattle.imp_fields.specs.declared.line.Discrepancy.TheVariants as discrepancy
use Rattle.shipment_machine.specs.declared.command.ShipmentCommand.TheVariants as order
use Rattle.shipment_machine.specs.declared.command.DeskCommand.TheVariants as desk
use Rattle.shipment_machine.specs.declared.plans.Detail.TheVariants as detail

-- Short forms.

abbrev pub w1 : ℕ
w1 = 201234567

abbrev pub at_time : ℕ → ℕ → LocalMinute
at_time hour minute = record { day = 20465; minute = hour * 60 + minute }

abbrev pub noon : LocalMinute
noon = at_time 12 0

abbrev pub lh : ℕ → Designator
lh number = record { carrier = codes "LH"; number = number; suffix = None }

abbrev pub lh_on : ℕ → FlightDate
lh_on number = record { flight = lh number; day = 20465 }

abbrev pub fra : List ℕ
fra = codes "FRA"

abbrev pub jfk : List ℕ
jfk = codes "JFK"

-- the state after a command, or as it was where it is refused
abbrev pub next : Cargo → Result Outcome Refusal → Cargo
next s (Ok done) = carried_out [] done s
next s (Err refusal) = s

abbrev pub after : Cargo → ShipmentCommand → LocalMinute → Cargo
after s command at = next s (effect s command at)

-- what a command is answered, and where it moves how much
abbrev pub answer : Result Outcome Refusal → Result ℕ Refusal
answer (Ok done) = Ok done.count
answer (Err refusal) = Err refusal

abbrev pub reply : Cargo → ShipmentCommand → LocalMinute → Result ℕ Refusal
reply s command at = answer (effect s command at)

abbrev pub step_of : Move → Place × Place × Amount
step_of m = (m.from, m.to, amount m.pieces m.tenths)

abbrev pub steps_of : Result Outcome Refusal → List (Place × Place × Amount)
steps_of (Ok done) = map step_of done.moves
steps_of (Err _) = []

abbrev pub moves : Cargo → ShipmentCommand → LocalMinute → List (Place × Place × Amount)
moves s command at = steps_of (effect s command at)

-- what a notice says: the event, and of how much
abbrev told_by : Notice → List (Event × Amount)
told_by (notice.Status here consigned event pieces tenths) = (event, amount pieces tenths) ∷ []
told_by (notice.Manifest here flight unload lines) = []

abbrev told_all : List Notice → List (Event × Amount)
told_all [] = []
told_all (n ∷ ns) = told_by n ++ told_all ns

abbrev events_of : Result Outcome Refusal → List (Event × Amount)
events_of (Ok done) = told_all done.notices
events_of (Err _) = []

abbrev events : Cargo → ShipmentCommand → LocalMinute → List (Event × Amount)
events s command at = events_of (effect s command at)

abbrev pub refused_waybill : ℕ → ℕ → Result ℕ Refusal
refused_waybill number w = Err (record { number = number; detail = detail.Waybill w })

abbrev pub refused_flight : ℕ → FlightDate → Result ℕ Refusal
refused_flight number flight = Err (record { number = number; detail = detail.Flight flight })

abbrev refused_free : ℕ → Result ℕ Refusal
refused_free pieces = Err (record { number = 206; detail = detail.Pieces pieces })

-- A waybill is booked and received at its origin, manifested and departs.

abbrev pub fresh : Cargo
fresh = opening_cargo fra

abbrev pub booking : ShipmentCommand
booking = order.Desk (desk.Book w1 fra jfk 10 1000 (codes "CARGO"))

example_book : reply fresh booking noon ≡ Ok 10
example_book = refl

abbrev pub booked : Cargo
booked = after fresh booking noon

abbrev pub receiving : ShipmentCommand
receiving = order.Desk (desk.Receive w1 10 1000 (codes "ACME"))

example_receive : reply booked receiving (at_time 10 30) ≡ Ok 10
example_receive = refl

example_receive_move : moves booked receiving (at_time 10 30) ≡ (Hand, Free, amount 10 1000) ∷ []
example_receive_move = refl

example_receive_message : events booked receiving (at_time 10 30) ≡ (event.ReceivedFromShipper (codes "ACME") (at_time 10 30), amount 10 1000) ∷ []
example_receive_message = refl

abbrev pub received : Cargo
received = after booked receiving (at_time 10 30)

example_receive_too_much : reply received (order.Desk (desk.Receive w1 1 1 [])) noon ≡ refused_waybill 205 w1
example_receive_too_much = refl

abbrev manifesting : ShipmentCommand
manifesting = order.Desk (desk.Manifest w1 (lh_on 400) jfk 4)

example_manifest : events received manifesting noon ≡ (event.Manifested (lh_on 400) jfk, amount 4 400) ∷ []
example_manifest = refl

abbrev manifested : Cargo
manifested = after received manifesting noon

example_depart : reply manifested (order.Desk (desk.Depart (lh_on 400))) noon ≡ Ok 4
example_depart = refl

example_depart_message : events manifested (order.Desk (desk.Depart (lh_on 400))) noon ≡ (event.Departed (lh_on 400) jfk, amount 4 400) ∷ []
example_depart_message = refl

abbrev left : Cargo
left = after manifested (order.Desk (desk.Depart (lh_on 400))) noon

example_manifest_closed : reply left (order.Desk (desk.Manifest w1 (lh_on 400) jfk 1)) noon ≡ refused_flight 208 (lh_on 400)
example_manifest_closed = refl

example_depart_closed : reply left (order.Desk (desk.Depart (lh_on 400))) noon ≡ refused_flight 208 (lh_on 400)
example_depart_closed = refl

example_depart_empty : reply left (order.Desk (desk.Depart (lh_on 401))) noon ≡ refused_flight 209 (lh_on 401)
example_depart_empty = refl

example_balances : taken left.book w1 ∷ store left.book w1 ∷ departed left.book w1 ∷ delivered left.book w1 ∷ missing left.book w1 ∷ found left.book w1 ∷ built left.book w1 (lh_on 400) ∷ []
    ≡ amount 10 1000 ∷ amount 6 600 ∷ amount 4 400 ∷ amount 0 0 ∷ amount 0 0 ∷ amount 0 0 ∷ amount 0 0 ∷ []
example_balances = refl

-- Pieces that were received go back, all of them or some with their share, and are received anew.

abbrev withdrawing : ℕ → ShipmentCommand
withdrawing pieces = order.Desk (desk.Withdraw w1 pieces (codes "ACME"))

example_withdraw : moves received (withdrawing 4) noon ≡ (Free, Hand, amount 4 400) ∷ []
example_withdraw = refl

example_withdraw_tells_nothing : events received (withdrawing 4) noon ≡ []
example_withdraw_tells_nothing = refl

abbrev withdrawn : Cargo
withdrawn = after received (withdrawing 10) noon

example_withdraw_balances : taken withdrawn.book w1 ∷ store withdrawn.book w1 ∷ [] ≡ amount 0 0 ∷ amount 0 0 ∷ []
example_withdraw_balances = refl

-- at another weight, though the waybill still has moves
example_receive_anew : reply withdrawn (order.Desk (desk.Receive w1 10 2000 (codes "ACME"))) noon ≡ Ok 10
example_receive_anew = refl

example_book_still_moved : reply withdrawn booking noon ≡ refused_waybill 202 w1
example_book_still_moved = refl

example_withdraw_too_much : reply manifested (withdrawing 7) noon ≡ refused_free 6
example_withdraw_too_much = refl

example_withdraw_elsewhere : reply (record received { here = jfk }) (withdrawing 1) noon ≡ refused_waybill 204 w1
example_withdraw_elsewhere = refl

example_withdraw_unknown : reply fresh (withdrawing 1) noon ≡ refused_waybill 201 w1
example_withdraw_unknown = refl

-- ten pieces of 100.0 kg were taken over, and two of 900.0 kg beside them
abbrev with_found : Cargo
with_found = after received (order.Desk (desk.Found w1 2 9000 None)) noon

-- no more pieces go back than were taken over, and no more weight
example_withdraw_found_pieces : reply with_found (withdrawing 11) noon ≡ refused_waybill 223 w1
example_withdraw_found_pieces = refl

example_withdraw_found_weight : reply with_found (withdrawing 2) noon ≡ refused_waybill 223 w1
example_withdraw_found_weight = refl

example_withdraw_one_of_found : moves with_found (withdrawing 1) noon ≡ (Free, Hand, amount 1 833) ∷ []
example_withdraw_one_of_found = refl

-- A flight with nothing on it unloads elsewhere from now on.

abbrev rerouting : ℕ → List ℕ → ShipmentCommand
rerouting flight unload = order.Desk (desk.Reroute (lh_on flight) unload)

abbrev emptied : Cargo
emptied = after manifested (order.Desk (desk.Offload w1 (lh_on 400) 4)) noon

example_reroute : reply emptied (rerouting 400 (codes "ORD")) noon ≡ Ok 1
example_reroute = refl

example_reroute_same : reply emptied (rerouting 400 jfk) noon ≡ Ok 0
example_reroute_same = refl

-- what is built then goes there, and no longer to where it went
abbrev rerouted : Cargo
rerouted = after emptied (rerouting 400 (codes "ORD")) noon

example_manifest_rerouted : reply rerouted (order.Desk (desk.Manifest w1 (lh_on 400) (codes "ORD") 4)) noon ≡ Ok 4
example_manifest_rerouted = refl

example_manifest_old_point : reply rerouted manifesting noon ≡ refused_flight 218 (lh_on 400)
example_manifest_old_point = refl

example_reroute_unknown : reply emptied (rerouting 401 jfk) noon ≡ refused_flight 221 (lh_on 401)
example_reroute_unknown = refl

example_reroute_closed : reply left (rerouting 400 fra) noon ≡ refused_flight 208 (lh_on 400)
example_reroute_closed = refl

example_reroute_here : reply manifested (rerouting 400 fra) noon ≡ refused_flight 204 (lh_on 400)
example_reroute_here = refl

example_reroute_built : reply manifested (rerouting 400 jfk) noon ≡ refused_flight 222 (lh_on 400)
example_reroute_built = refl

-- What is declared is replaced while all that came in is free and fits in it, and not where nothing was declared.

abbrev amending : List ℕ → List ℕ → ℕ → ℕ → ShipmentCommand
amending origin destination pieces tenths = order.Desk (desk.Amend w1 origin destination pieces tenths (codes "TOOLS"))

example_amend : reply received (amending fra (codes "ORD") 12 1200) noon ≡ Ok 12
example_amend = refl

example_amend_moves_nothing : moves received (amending fra (codes "ORD") 12 1200) noon ≡ []
example_amend_moves_nothing = refl

example_amend_tells_nothing : events received (amending fra (codes "ORD") 12 1200) noon ≡ []
example_amend_tells_nothing = refl

abbrev amended : Cargo
amended = after received (amending fra (codes "ORD") 12 1200) noon

example_amended : amended.declared w1 ≡ Some (record { origin = fra; destination = codes "ORD"; pieces = 12; tenths = 1200; goods = codes "TOOLS"; notified = false; since = Some 20465 })
example_amended = refl

-- two more may be received now, and no third
example_receive_more : reply amended (order.Desk (desk.Receive w1 2 200 [])) noon ≡ Ok 2
example_receive_more = refl

example_receive_third : reply amended (order.Desk (desk.Receive w1 3 300 [])) noon ≡ refused_waybill 205 w1
example_receive_third = refl

-- whatever fits nothing that is here: fewer pieces, less weight, or less than a tenth for each of those to come
example_amend_pieces : reply received (amending fra jfk 9 1000) noon ≡ refused_waybill 226 w1
example_amend_pieces = refl

example_amend_weight : reply received (amending fra jfk 10 999) noon ≡ refused_waybill 226 w1
example_amend_weight = refl

example_amend_rest : reply received (amending fra jfk 12 1001) noon ≡ refused_waybill 226 w1
example_amend_rest = refl

example_amend_rest_fits : reply received (amending fra jfk 12 1002) noon ≡ Ok 12
example_amend_rest_fits = refl

-- what was found counts too
example_amend_found : reply with_found (amending fra jfk 11 20000) noon ≡ refused_waybill 226 w1
example_amend_found = refl

example_amend_with_found : reply with_found (amending fra jfk 12 10000) noon ≡ Ok 12
example_amend_with_found = refl

-- received here, it keeps its origin, until all went back
example_amend_origin : reply received (amending (codes "MUC") jfk 10 1000) noon ≡ refused_waybill 204 w1
example_amend_origin = refl

example_amend_withdrawn : reply withdrawn (amending (codes "MUC") jfk 1 0) noon ≡ Ok 1
example_amend_withdrawn = refl

example_amend_built : reply manifested (amending fra jfk 12 1200) noon ≡ refused_waybill 225 w1
example_amend_built = refl

example_amend_left : reply left (amending fra jfk 12 1200) noon ≡ refused_waybill 225 w1
example_amend_left = refl

example_amend_too_much : reply manifested (amending fra jfk 10_000 10_000) noon ≡ refused_waybill 217 w1
example_amend_too_much = refl

example_amend_unknown : reply fresh (amending fra jfk 10 1000) noon ≡ refused_waybill 201 w1
example_amend_unknown = refl

-- A manifest announces ten pieces here, of which seven, twelve or none are counted.

abbrev line : List ℕ → ℕ → ℕ → Option ℕ → InboundLine
line unload pieces tenths total = record {
  unload = unload;
  cargo = record { awb = w1; origin = fra; destination = jfk; pieces = pieces; tenths = tenths; total = total; goods = codes "CARGO" };
}

abbrev manifest : ℕ → List InboundLine → ShipmentCommand
manifest sequence lines = order.Ffm (record { number = sequence; flight = lh 400; date = record { day = 12; month = 1 }; loaded = fra; lines = lines })

abbrev there : Cargo
there = opening_cargo jfk

example_ffm : reply there (manifest 1 (line jfk 10 1000 None ∷ [])) noon ≡ Ok 1
unfolding days_of_years days_of_months day_count days_from_civil
example_ffm = refl

abbrev announced : Cargo
announced = after there (manifest 1 (line jfk 10 1000 None ∷ [])) noon

example_expected : expected_amount (announced.expected (lh_on 400) w1) ≡ amount 10 1000
unfolding days_of_years days_of_months day_count days_from_civil
example_expected = refl

abbrev counting : ℕ → ShipmentCommand
counting counted = order.Desk (desk.CheckIn w1 (lh_on 400) counted)

abbrev half_past_two : LocalMinute
half_past_two = at_time 14 30

example_short : moves announced (counting 7) half_past_two ≡ (Hand, Free, amount 7 700) ∷ (Hand, Missing, amount 3 300) ∷ []
unfolding days_of_years days_of_months day_count days_from_civil
example_short = refl

example_short_messages : events announced (counting 7) half_past_two
    ≡ (event.ReceivedFromFlight (lh_on 400) half_past_two, amount 7 700) ∷ (event.Differs (lh_on 400) half_past_two discrepancy.Missing, amount 3 300) ∷ []
unfolding days_of_years days_of_months day_count days_from_civil
example_short_messages = refl

abbrev short : Cargo
short = after announced (counting 7) half_past_two

example_short_balances : free short.book w1 ∷ missing short.book w1 ∷ found short.book w1 ∷ [] ≡ amount 7 700 ∷ amount 3 300 ∷ amount 0 0 ∷ []
unfolding days_of_years days_of_months day_count days_from_civil
example_short_balances = refl

example_checked_in : reply short (counting 7) noon ≡ refused_waybill 212 w1
unfolding days_of_years days_of_months day_count days_from_civil
example_checked_in = refl

example_over : moves announced (counting 12) half_past_two ≡ (Hand, Free, amount 10 1000) ∷ (Surplus, Free, amount 2 200) ∷ []
unfolding days_of_years days_of_months day_count days_from_civil
example_over = refl

example_over_messages : events announced (counting 12) half_past_two
    ≡ (event.ReceivedFromFlight (lh_on 400) half_past_two, amount 12 1200) ∷ (event.Differs (lh_on 400) half_past_two discrepancy.Found, amount 2 200) ∷ []
unfolding days_of_years days_of_months day_count days_from_civil
example_over_messages = refl

example_none : moves announced (counting 0) half_past_two ≡ (Hand, Missing, amount 10 1000) ∷ []
unfolding days_of_years days_of_months day_count days_from_civil
example_none = refl

example_none_messages : events announced (counting 0) half_past_two ≡ (event.Differs (lh_on 400) half_past_two discrepancy.Missing, amount 10 1000) ∷ []
unfolding days_of_years days_of_months day_count days_from_civil
example_none_messages = refl

-- a flight brought it: its origin can be another station, but not this one
abbrev all_came : Cargo
all_came = after announced (counting 10) half_past_two

example_amend_brought : reply all_came (amending (codes "MUC") jfk 10 1000) noon ≡ Ok 10
unfolding days_of_years days_of_months day_count days_from_civil
example_amend_brought = refl

example_amend_brought_to_here : reply all_came (amending jfk jfk 10 1000) noon ≡ refused_waybill 204 w1
unfolding days_of_years days_of_months day_count days_from_civil
example_amend_brought_to_here = refl

-- Three are struck off, since they were counted before. The other seven are expected still.

abbrev striking : ℕ → ShipmentCommand
striking pieces = order.Desk (desk.Strike w1 (lh_on 400) pieces)

example_strike : reply announced (striking 3) noon ≡ Ok 3
unfolding days_of_years days_of_months day_count days_from_civil
example_strike = refl

example_strike_moves_nothing : moves announced (striking 3) noon ≡ []
unfolding days_of_years days_of_months day_count days_from_civil
example_strike_moves_nothing = refl

example_strike_tells_nothing : events announced (striking 3) noon ≡ []
unfolding days_of_years days_of_months day_count days_from_civil
example_strike_tells_nothing = refl

abbrev fewer : Cargo
fewer = after announced (striking 3) noon

example_fewer : fewer.expected (lh_on 400) w1 ≡ Some (record { pieces = 7; tenths = 700; checked = false })
unfolding days_of_years days_of_months day_count days_from_civil
example_fewer = refl

example_fewer_counted : moves fewer (counting 7) half_past_two ≡ (Hand, Free, amount 7 700) ∷ []
unfolding days_of_years days_of_months day_count days_from_civil
example_fewer_counted = refl

-- where all are struck, the line is closed as it stood
abbrev closed_line : Cargo
closed_line = after fewer (striking 7) noon

example_closed_line : closed_line.expected (lh_on 400) w1 ≡ Some (record { pieces = 7; tenths = 700; checked = true })
unfolding days_of_years days_of_months day_count days_from_civil
example_closed_line = refl

example_count_closed : reply closed_line (counting 7) noon ≡ refused_waybill 212 w1
unfolding days_of_years days_of_months day_count days_from_civil
example_count_closed = refl

example_strike_closed : reply closed_line (striking 1) noon ≡ refused_waybill 212 w1
unfolding days_of_years days_of_months day_count days_from_civil
example_strike_closed = refl

example_strike_counted : reply short (striking 1) noon ≡ refused_waybill 212 w1
unfolding days_of_years days_of_months day_count days_from_civil
example_strike_counted = refl

example_strike_too_many : reply announced (striking 11) noon ≡ refused_waybill 224 w1
unfolding days_of_years days_of_months day_count days_from_civil
example_strike_too_many = refl

example_strike_elsewhere : reply announced (order.Desk (desk.Strike w1 (lh_on 401) 1)) noon ≡ refused_waybill 211 w1
unfolding days_of_years days_of_months day_count days_from_civil
example_strike_elsewhere = refl

example_strike_unknown : reply there (striking 1) noon ≡ refused_waybill 201 w1
unfolding days_of_years days_of_months day_count days_from_civil
example_strike_unknown = refl

-- a further part adds to what is left of an open line, and is refused where all is struck
example_part_after_strike : expected_amount ((after fewer (manifest 2 (line jfk 2 200 None ∷ [])) noon).expected (lh_on 400) w1) ≡ amount 9 900
unfolding days_of_years days_of_months day_count days_from_civil
example_part_after_strike = refl

example_part_after_close : reply closed_line (manifest 2 (line jfk 2 200 None ∷ [])) noon ≡ refused_waybill 214 w1
unfolding days_of_years days_of_months day_count days_from_civil
example_part_after_close = refl

example_part_again : reply announced (manifest 1 (line jfk 9 900 None ∷ [])) noon
    ≡ Err (record { number = 213; detail = detail.Part (record { flight = lh_on 400; airport = fra; number = 1 }) })
unfolding days_of_years days_of_months day_count days_from_civil
example_part_again = refl

-- a further part adds to what is expected, until it was counted
example_second_part : expected_amount ((after announced (manifest 2 (line jfk 2 10 None ∷ line jfk 1 0 None ∷ [])) noon).expected (lh_on 400) w1) ≡ amount 13 1011
unfolding days_of_years days_of_months day_count days_from_civil
example_second_part = refl

example_after_check_in : reply short (manifest 2 (line jfk 2 10 None ∷ [])) noon ≡ refused_waybill 214 w1
unfolding days_of_years days_of_months day_count days_from_civil
example_after_check_in = refl

-- lines for another airport don't count
example_elsewhere : reply there (manifest 1 (line (codes "MUC") 10 1000 None ∷ [])) noon ≡ Ok 0
unfolding days_of_years days_of_months day_count days_from_civil
example_elsewhere = refl

-- a date of December, received on the first day of all
example_bad_date : reply there (order.Ffm (record { number = 1; flight = lh 400; date = record { day = 31; month = 12 }; loaded = fra; lines = [] })) (record { day = 10957; minute = 0 })
    ≡ Err (record { number = 301; detail = detail.Line 2 why.Date })
unfolding days_of_years days_of_months day_count days_from_civil
example_bad_date = refl

-- Delivery in parts: the last has what rounding left.

abbrev three_free : Cargo
three_free = after (after (after there (order.Desk (desk.Book w1 fra jfk 10 1000 [])) noon) (order.Desk (desk.Found w1 3 100 None)) noon) (order.Desk (desk.Notify w1 [])) noon

abbrev delivering : ShipmentCommand
delivering = order.Desk (desk.Deliver w1 1 [])

abbrev one_left : Cargo
one_left = after (after three_free delivering noon) delivering noon

example_deliveries : moves three_free delivering noon ++ moves (after three_free delivering noon) delivering noon ++ moves one_left delivering noon
    ≡ (Free, Delivered, amount 1 33) ∷ (Free, Delivered, amount 1 33) ∷ (Free, Delivered, amount 1 34) ∷ []
example_deliveries = refl

example_no_fourth : reply (after one_left delivering noon) delivering noon ≡ refused_free 0
example_no_fourth = refl

-- Transfer: free pieces go to another airline, with their share, and no message.

abbrev transferring : ℕ → ShipmentCommand
transferring p = order.Desk (desk.Transfer w1 p (codes "BA"))

example_transfer : moves received (transferring 3) noon ≡ (Free, Transferred, amount 3 300) ∷ []
example_transfer = refl

example_transfer_message : events received (transferring 3) noon ≡ []
example_transfer_message = refl

example_transferred : (transferred (after received (transferring 3) noon).book w1 ∷ store (after received (transferring 3) noon).book w1 ∷ []) ≡ amount 3 300 ∷ amount 7 700 ∷ []
example_transferred = refl

example_transfer_too_many : reply (after received (transferring 3) noon) (transferring 8) noon ≡ refused_free 7
example_transfer_too_many = refl

-- a waybill that is for here goes no further
example_transfer_here : reply three_free (transferring 1) noon ≡ refused_waybill 220 w1
example_transfer_here = refl

-- Found: what was missing comes back first, the rest is surplus.

abbrev three_missing : Cargo
three_missing = after (after there (manifest 1 (line jfk 3 300 None ∷ [])) noon) (counting 0) noon

abbrev finding : ShipmentCommand
finding = order.Desk (desk.Found w1 5 1 (Some (lh_on 400)))

example_found : moves three_missing finding noon ≡ (Missing, Free, amount 3 300) ∷ (Surplus, Free, amount 2 2) ∷ []
unfolding days_of_years days_of_months day_count days_from_civil
example_found = refl

example_found_count : reply three_missing finding noon ≡ Ok 5
unfolding days_of_years days_of_months day_count days_from_civil
example_found_count = refl

example_found_message : events three_missing finding noon ≡ (event.Differs (lh_on 400) noon discrepancy.Found, amount 5 302) ∷ []
unfolding days_of_years days_of_months day_count days_from_civil
example_found_message = refl

-- Offload: the pieces take their share, the rest stays with the rest of the weight.

abbrev three_built : Cargo
three_built = after (after (after fresh (order.Desk (desk.Book w1 fra jfk 3 100 [])) noon) (order.Desk (desk.Receive w1 3 100 [])) noon) (order.Desk (desk.Manifest w1 (lh_on 400) jfk 3)) noon

example_offload : moves three_built (order.Desk (desk.Offload w1 (lh_on 400) 2)) noon ≡ (Built (lh_on 400), Free, amount 2 66) ∷ []
example_offload = refl

example_offload_rest : built (after three_built (order.Desk (desk.Offload w1 (lh_on 400) 2)) noon).book w1 (lh_on 400) ≡ amount 1 34
example_offload_rest = refl

example_offload_too_many : reply three_built (order.Desk (desk.Offload w1 (lh_on 400) 4)) noon ≡ refused_waybill 207 w1
example_offload_too_many = refl

-- a flight that goes to another airport
example_elsewhere_bound : reply (after received manifesting noon) (order.Desk (desk.Manifest w1 (lh_on 400) (codes "MUC") 1)) noon ≡ refused_flight 218 (lh_on 400)
example_elsewhere_bound = refl

-- A line that declares: its share of the weight for all pieces. And one that declares too much.

abbrev three_of_ten : Cargo
three_of_ten = after there (manifest 1 (line jfk 3 100 (Some 10) ∷ [])) noon

abbrev declared_amount : Option Declared → Amount
declared_amount None = amount 0 0
declared_amount (Some d) = amount d.pieces d.tenths

example_declares : declared_amount (three_of_ten.declared w1) ≡ amount 10 333
unfolding days_of_years days_of_months day_count days_from_civil
example_declares = refl

-- the day of the declaration: that of the moment, and no notice changes it
abbrev since_of : Option Declared → Option ℕ
since_of None = None
since_of (Some d) = d.since

example_declares_since : since_of (three_of_ten.declared w1) ≡ Some 20465
unfolding days_of_years days_of_months day_count days_from_civil
example_declares_since = refl

example_booked_since : since_of (booked.declared w1) ≡ Some 20465
example_booked_since = refl

example_notified_since : since_of (three_free.declared w1) ≡ Some 20465
example_notified_since = refl

example_booked_again_since : since_of ((after booked booking (record { day = 20466; minute = 0 })).declared w1) ≡ Some 20466
example_booked_again_since = refl

example_declares_expected : expected_amount (three_of_ten.expected (lh_on 400) w1) ≡ amount 3 100
unfolding days_of_years days_of_months day_count days_from_civil
example_declares_expected = refl

example_too_heavy : reply there (manifest 1 (line jfk 1 999999 (Some 2) ∷ [])) noon ≡ refused_waybill 217 w1
unfolding days_of_years days_of_months day_count days_from_civil
example_too_heavy = refl

-- Taken and found together stay within 9,999 pieces; without a flight nothing is sent.

example_found_too_many : reply received (order.Desk (desk.Found w1 9990 1 None)) noon ≡ refused_waybill 217 w1
example_found_too_many = refl

example_found_many : reply received (order.Desk (desk.Found w1 9989 1 None)) noon ≡ Ok 9989
example_found_many = refl

example_found_untold : events received (order.Desk (desk.Found w1 9989 1 None)) noon ≡ []
example_found_untold = refl

-- Amounts and refusals as texts.

example_four_pieces : amount_text (amount 4 400) ≡ codes "4 pieces, 40.0 kg"
unfolding digits
example_four_pieces = refl

example_one_piece : amount_text (amount 1 105) ≡ codes "1 piece, 10.5 kg"
unfolding digits
example_one_piece = refl

example_refused_number : refused_with 102 (detail.Waybill 201234572) ≡ codes "refused 102 020-12345723"
unfolding digits
example_refused_number = refl

example_refused_flight : refused_with 208 (detail.Flight (lh_on 400)) ≡ codes "refused 208 LH400/2026-01-12"
unfolding digits day_line
example_refused_flight = refl

example_refused_line : refused_with 301 (detail.Line 4 why.Ending) ≡ codes "refused 301 4 ending"
unfolding digits
example_refused_line = refl

example_refused : refused_with 501 detail.Nothing ≡ codes "refused 501"
unfolding digits
example_refused = refl
