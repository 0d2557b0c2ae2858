-- The worked rows of the whole station, computed.
use Rattle.station_core.proofs.Common.{Answer, Bool, Designator, DeskCommand, Done, Expectation, FlightDate, InboundLine, Input, Issue, Keyed, List, LocalMinute, None, Order, Refused, Some, State, TakeIn, Void, Wire, [], after_all, answers_of, asks_for, codes, command_text, expected_for, false, filter, flat_map, length, map, opening, refl, refusal_text, reply_text, true, ℕ, ◌*◌, ◌++◌, ◌+◌, ◌∷◌, ◌≡◌}
use Rattle.std.specs.Fmt.{digits}
use Rattle.jiff_core.specs.Calendar.{days_of_years, days_of_months, day_count, days_from_civil}
use Rattle.agent_stock.specs.declared.stock.Run.{Run}
use Rattle.shipment_machine.specs.declared.command.DeskCommand.TheVariants.{Notify, Book, Receive, Withdraw, Manifest, Offload, Reroute, Depart, CheckIn, Deliver, Missing, Confirm}
use Rattle.desk_commands.specs.declared.command.Command.TheVariants.{Stock, Cargo}
use Rattle.desk_commands.specs.Command.{day_line}
use Rattle.station_core.specs.declared.rows.ExpectedQuery.TheVariants.{On}
use Rattle.telegrams.specs.declared.telegram.Content.TheVariants.{Fwb, Ffm, Fsu}

-- Short forms.

abbrev pub at_time : ℕ → ℕ → LocalMinute
at_time hour minute = record { day = 20465; minute = hour * 60 + minute }

abbrev pub noon : LocalMinute
noon = at_time 12 0

abbrev pub fra : List ℕ
fra = codes "FRA"

abbrev pub jfk : List ℕ
jfk = codes "JFK"

abbrev pub lh : ℕ → Designator
lh number = record { carrier = codes "LH"; number = number; suffix = None }

abbrev pub lh_on : ℕ → FlightDate
lh_on number = record { flight = lh number; day = 20465 }

-- the printed form of an answer
abbrev pub printed : Answer → List ℕ
printed (Done reply) = reply_text reply
printed (Refused refusal) = refusal_text refusal

-- the printed answers to inputs, in order
abbrev pub told : State → List (Input × LocalMinute) → List (List ℕ)
told s inputs = map printed (answers_of s inputs)

abbrev pub after : State → List (Input × LocalMinute) → State
after s inputs = after_all s inputs

-- lines, each with CRLF
abbrev pub crlf : List (List ℕ) → List ℕ
crlf lines = flat_map (λ line. line ++ 13 ∷ 10 ∷ []) lines

abbrev pub stock : List ℕ → Order → Input × LocalMinute
stock key order = (Keyed key (Stock order), noon)

abbrev pub run_from : ℕ → ℕ → Run
run_from first count = record { first = first; count = count }

abbrev pub desk : List ℕ → DeskCommand → Input × LocalMinute
desk key command = (Keyed key (Cargo command), noon)

-- The stock: taken in, issued, repeated, and refused.

abbrev pub k1 : Input × LocalMinute
k1 = stock (codes "k1") (TakeIn (run_from 201234567 10))

abbrev pub k2 : Input × LocalMinute
k2 = stock (codes "k2") (Issue (run_from 201234570 3) (codes "ACME"))

example_stock : told (opening fra) (k1 ∷ k2 ∷ []) ≡ codes "ok 10" ∷ codes "ok 3" ∷ []
unfolding digits day_line
example_stock = refl

example_stock_again : told (opening fra) (k1 ∷ k2 ∷ k2 ∷ stock (codes "k2") (Issue (run_from 201234570 4) (codes "ACME")) ∷ []) ≡ codes "ok 10" ∷ codes "ok 3" ∷ codes "ok 3" ∷ codes "refused 501" ∷ []
unfolding digits day_line
example_stock_again = refl

abbrev k3 : Input × LocalMinute
k3 = stock (codes "k3") (Issue (run_from 201234572 2) (codes "BETA"))

example_issue_refused : told (opening fra) (k1 ∷ k2 ∷ k3 ∷ []) ≡ codes "ok 10" ∷ codes "ok 3" ∷ codes "refused 102 020-12345723" ∷ []
unfolding digits day_line
example_issue_refused = refl

-- a repeat and a refusal leave the state as it was
example_unchanged : after (opening fra) (k1 ∷ k2 ∷ k2 ∷ k3 ∷ []) ≡ after (opening fra) (k1 ∷ k2 ∷ [])
unfolding digits day_line
example_unchanged = refl

example_run_refused : told (opening fra) (k1 ∷ k2 ∷ stock (codes "k5") (TakeIn (run_from 209999990 11)) ∷ stock (codes "k5") (TakeIn (run_from 209999990 10)) ∷ [])
    ≡ codes "ok 10" ∷ codes "ok 3" ∷ codes "refused 105" ∷ codes "ok 10" ∷ []
unfolding digits day_line
example_run_refused = refl

example_void : told (opening fra) (k1 ∷ k2 ∷ stock (codes "k7") (Void (run_from 201234567 1)) ∷ []) ≡ codes "ok 10" ∷ codes "ok 3" ∷ codes "ok 1" ∷ []
unfolding digits day_line
example_void = refl

example_command_text : command_text (Stock (Issue (run_from 201234572 2) (codes "BETA")))
    ≡ codes "issue" ++ 10 ∷ codes "020" ++ 10 ∷ codes "1234572" ++ 10 ∷ codes "2" ++ 10 ∷ codes "BETA"
unfolding digits day_line
example_command_text = refl

-- A waybill declared by a telegram: the number was an agent's, and is used up.

abbrev k4 : Input × LocalMinute
k4 = stock (codes "k4") (Issue (run_from 201234567 1) (codes "ACME"))

abbrev fwb : Input × LocalMinute
fwb = (Wire (record { text = codes "FWB/16"; content = Fwb (record { awb = 201234567; origin = fra; destination = jfk; pieces = 10; tenths = 1000; total = None; goods = [] }) }), noon)

example_fwb : told (opening fra) (k1 ∷ k2 ∷ k4 ∷ fwb ∷ fwb ∷ []) ≡ codes "ok 10" ∷ codes "ok 3" ∷ codes "ok 1" ∷ codes "ok 10" ∷ codes "ok 10" ∷ []
unfolding digits day_line
example_fwb = refl

example_fwb_at_desk : told (opening fra) (k1 ∷ fwb ∷ []) ≡ codes "ok 10" ∷ codes "refused 203 020-12345675" ∷ []
unfolding digits day_line
example_fwb_at_desk = refl

example_foreign : told (opening fra) (fwb ∷ []) ≡ codes "ok 10" ∷ []
unfolding digits day_line
example_foreign = refl

-- A waybill from its booking to its departure.

abbrev booking : Input × LocalMinute
booking = desk (codes "b") (Book 201234567 fra jfk 10 1000 (codes "CARGO"))

abbrev receiving : Input × LocalMinute
receiving = (Keyed (codes "r") (Cargo (Receive 201234567 10 1000 (codes "ACME"))), at_time 10 30)

abbrev manifesting : Input × LocalMinute
manifesting = desk (codes "m") (Manifest 201234567 (lh_on 400) jfk 4)

abbrev departing : Input × LocalMinute
departing = desk (codes "d") (Depart (lh_on 400))

abbrev pub received : State
received = after (opening fra) (booking ∷ receiving ∷ [])

abbrev pub loaded : State
loaded = after received (manifesting ∷ [])

abbrev pub left : State
left = after received (manifesting ∷ departing ∷ [])

abbrev received_message : List ℕ
received_message = crlf (codes "FSU/12" ∷ codes "020-12345675FRAJFK/T10K100.0" ∷ codes "RCS/12JAN1030/FRA/T10K100.0/ACME" ∷ [])

example_received : told (opening fra) (booking ∷ receiving ∷ []) ≡ codes "ok 10" ∷ codes "ok 10" ∷ []
unfolding digits day_line
example_received = refl

example_received_message : received.cargo.outbox ≡ received_message ∷ []
unfolding digits day_line
example_received_message = refl

example_received_length : length received_message ≡ 72
example_received_length = refl

example_received_twice : told received (desk (codes "r2") (Receive 201234567 1 1 []) ∷ []) ≡ codes "refused 205 020-12345675" ∷ []
unfolding digits day_line
example_received_twice = refl

-- Taken back and received anew at another weight: each of the three is told once, and its message too.

abbrev withdrawing : Input × LocalMinute
withdrawing = desk (codes "w") (Withdraw 201234567 10 (codes "ACME"))

abbrev receiving_anew : Input × LocalMinute
receiving_anew = (Keyed (codes "r3") (Cargo (Receive 201234567 10 2000 (codes "ACME"))), at_time 10 30)

example_received_anew : told received (withdrawing ∷ withdrawing ∷ receiving_anew ∷ booking ∷ []) ≡ codes "ok 10" ∷ codes "ok 10" ∷ codes "ok 10" ∷ codes "ok 10" ∷ []
unfolding digits day_line
example_received_anew = refl

example_withdrawn_tells_nothing : (after received (withdrawing ∷ [])).cargo.outbox ≡ received.cargo.outbox
unfolding digits day_line
example_withdrawn_tells_nothing = refl

-- A flight unloads elsewhere once nothing is on it any more.

abbrev rerouting : List ℕ → Input × LocalMinute
rerouting key = desk key (Reroute (lh_on 400) (codes "ORD"))

example_rerouted : told loaded (rerouting (codes "u1") ∷ desk (codes "o") (Offload 201234567 (lh_on 400) 4) ∷ rerouting (codes "u2") ∷ rerouting (codes "u3") ∷ desk (codes "m4") (Manifest 201234567 (lh_on 400) jfk 4) ∷ [])
    ≡ codes "refused 222 LH400/2026-01-12" ∷ codes "ok 4" ∷ codes "ok 1" ∷ codes "ok 0" ∷ codes "refused 218 LH400/2026-01-12" ∷ []
unfolding digits day_line
example_rerouted = refl

abbrev ffm_message : List ℕ
ffm_message = crlf (codes "FFM/8" ∷ codes "1/LH400/12JAN/FRA" ∷ codes "JFK" ∷ codes "020-12345675FRAJFK/P4K40.0T10/CARGO" ∷ codes "LAST" ∷ [])

example_left : told received (manifesting ∷ departing ∷ desk (codes "m2") (Manifest 201234567 (lh_on 400) jfk 1) ∷ desk (codes "d2") (Depart (lh_on 401)) ∷ [])
    ≡ codes "ok 4" ∷ codes "ok 4" ∷ codes "refused 208 LH400/2026-01-12" ∷ codes "refused 209 LH401/2026-01-12" ∷ []
unfolding digits day_line
example_left = refl

abbrev status_message : List ℕ → List ℕ
status_message line = crlf (codes "FSU/12" ∷ codes "020-12345675FRAJFK/T10K100.0" ∷ line ∷ [])

example_messages : left.cargo.outbox ≡ received_message ∷ status_message (codes "MAN/LH400/12JAN/FRAJFK/P4K40.0") ∷ status_message (codes "DEP/LH400/12JAN/FRAJFK/P4K40.0") ∷ ffm_message ∷ []
unfolding digits day_line
example_messages = refl

example_ffm_length : length ffm_message ≡ 74
example_ffm_length = refl

-- Confirming.

abbrev confirm : List ℕ → ℕ → Input × LocalMinute
confirm key upto = desk key (Confirm upto)

example_confirm : told left (confirm (codes "c1") 3 ∷ confirm (codes "c2") 2 ∷ confirm (codes "c3") 5 ∷ confirm (codes "c4") 3 ∷ [])
    ≡ codes "ok 3" ∷ codes "refused 401 3 4" ∷ codes "refused 401 3 4" ∷ codes "ok 0" ∷ []
unfolding digits day_line
example_confirm = refl

-- A status message joins the trail of a known waybill.

abbrev pub fsu : List ℕ → ℕ → Input × LocalMinute
fsu text w = (Wire (record { text = text; content = Fsu (record { awb = w; lines = codes "ARR/LH400/12JAN/JFK" ∷ [] }) }), noon)

example_fsu : told received (fsu (codes "FSU/12 a") 201234567 ∷ fsu (codes "FSU/12 b") 2201234567 ∷ []) ≡ codes "ok 1" ∷ codes "refused 201 220-12345675" ∷ []
unfolding digits day_line
example_fsu = refl

-- A manifest, in parts, and a check-in.

abbrev pub line : ℕ → ℕ → InboundLine
line pieces tenths = record {
  unload = jfk;
  cargo = record { awb = 201234567; origin = fra; destination = jfk; pieces = pieces; tenths = tenths; total = None; goods = codes "CARGO" };
}

abbrev pub ffm : List ℕ → List InboundLine → Input
ffm text lines = Wire (record { text = text; content = Ffm (record { sequence = 1; flight = lh 400; date = record { day = 12; month = 1 }; loaded = fra; lines = lines }) })

abbrev pub announced : State
announced = after (opening jfk) ((ffm (codes "FFM a") (line 10 1000 ∷ []), noon) ∷ [])

example_ffm : told (opening jfk) ((ffm (codes "FFM a") (line 10 1000 ∷ []), noon) ∷ (ffm (codes "FFM a") (line 10 1000 ∷ []), at_time 13 0) ∷ (ffm (codes "FFM b") (line 9 900 ∷ []), noon) ∷ [])
    ≡ codes "ok 1" ∷ codes "ok 1" ∷ codes "refused 213 LH400/2026-01-12/FRA/1" ∷ []
unfolding digits day_line days_of_years days_of_months day_count days_from_civil
example_ffm = refl

-- what a flight is to bring is asked for of that flight, checked in or not
abbrev to_bring : FlightDate → Bool → Expectation
to_bring flight checked = record { flight = flight; awb = 201234567; expected = record { pieces = 10; tenths = 1000; checked = checked } }

example_on : filter (asks_for (On (lh_on 400))) (to_bring (lh_on 400) true ∷ to_bring (lh_on 401) false ∷ []) ≡ to_bring (lh_on 400) true ∷ []
example_on = refl

example_on_flight : expected_for (On (lh_on 400)) announced.cargo.expected (lh_on 400) 201234567 ≡ Some (record { pieces = 10; tenths = 1000; checked = false })
unfolding digits day_line days_of_years days_of_months day_count days_from_civil
example_on_flight = refl

example_on_another : expected_for (On (lh_on 401)) announced.cargo.expected (lh_on 400) 201234567 ≡ None
unfolding digits day_line days_of_years days_of_months day_count days_from_civil
example_on_another = refl

abbrev pub counted : ℕ → List ℕ → Input × LocalMinute
counted pieces key = (Keyed key (Cargo (CheckIn 201234567 (lh_on 400) pieces)), at_time 14 30)

example_short : (after announced (counted 7 (codes "c") ∷ [])).cargo.outbox ≡ status_message (codes "RCF/LH400/12JAN1430/JFK/P7K70.0") ∷ status_message (codes "DIS/LH400/12JAN1430/JFK/MSCA/P3K30.0") ∷ []
unfolding digits day_line days_of_years days_of_months day_count days_from_civil
example_short = refl

example_short_again : told announced (counted 7 (codes "c") ∷ counted 7 (codes "c2") ∷ []) ≡ codes "ok 7" ∷ codes "refused 212 020-12345675" ∷ []
unfolding digits day_line days_of_years days_of_months day_count days_from_civil
example_short_again = refl

example_over : (after announced (counted 12 (codes "c") ∷ [])).cargo.outbox ≡ status_message (codes "RCF/LH400/12JAN1430/JFK/P12K120.0") ∷ status_message (codes "DIS/LH400/12JAN1430/JFK/FDCA/P2K20.0") ∷ []
unfolding digits day_line days_of_years days_of_months day_count days_from_civil
example_over = refl

example_none : (after announced (counted 0 (codes "c") ∷ [])).cargo.outbox ≡ status_message (codes "DIS/LH400/12JAN1430/JFK/MSCA/T10K100.0") ∷ []
unfolding digits day_line days_of_years days_of_months day_count days_from_civil
example_none = refl

example_bad_date : told (opening jfk) ((Wire (record { text = codes "FFM c"; content = Ffm (record { sequence = 1; flight = lh 400; date = record { day = 31; month = 12 }; loaded = fra; lines = line 10 1000 ∷ [] }) }), record { day = 10957; minute = 0 }) ∷ [])
    ≡ codes "refused 301 2 date" ∷ []
unfolding digits day_line days_of_years days_of_months day_count days_from_civil
example_bad_date = refl

example_other_refusals : told left (desk (codes "x1") (Manifest 201234567 (lh_on 402) fra 1) ∷ desk (codes "x2") (Manifest 201234567 (lh_on 402) jfk 7) ∷ desk (codes "x3") (Deliver 201234567 1 []) ∷ desk (codes "x4") (Missing 201234567 7 None) ∷ desk (codes "x5") (Offload 201234567 (lh_on 402) 1) ∷ [])
    ≡ codes "refused 204 020-12345675" ∷ codes "refused 206 6" ∷ codes "refused 204 020-12345675" ∷ codes "refused 206 6" ∷ codes "refused 207 020-12345675" ∷ []
unfolding digits day_line
example_other_refusals = refl

-- A waybill is declared anew only while it has no moves; a repeat of the telegram isn't a new one.
example_anew : told (opening fra) (booking ∷ fwb ∷ []) ≡ codes "ok 10" ∷ codes "ok 10" ∷ []
unfolding digits day_line
example_anew = refl

example_has_moves : told received (fwb ∷ []) ≡ codes "refused 202 020-12345675" ∷ []
unfolding digits day_line
example_has_moves = refl

example_too_heavy : told (opening fra) (desk (codes "h") (Book 201234567 fra jfk 1 1000000 []) ∷ desk (codes "h") (Book 201234567 fra jfk 1 999999 []) ∷ []) ≡ codes "refused 217 020-12345675" ∷ codes "ok 1" ∷ []
unfolding digits day_line
example_too_heavy = refl

-- a refusal keeps nothing: the same key acts once the reason is gone
example_refused_then_accepted : told (opening fra) (receiving ∷ booking ∷ receiving ∷ receiving ∷ []) ≡ codes "refused 201 020-12345675" ∷ codes "ok 10" ∷ codes "ok 10" ∷ codes "ok 10" ∷ []
unfolding digits day_line
example_refused_then_accepted = refl

-- nothing to notify, and not yet notified
example_notify : told (opening jfk) (desk (codes "b") (Book 201234567 fra jfk 10 1000 []) ∷ desk (codes "n") (Notify 201234567 []) ∷ desk (codes "l") (Deliver 201234567 1 []) ∷ [])
    ≡ codes "ok 10" ∷ codes "refused 206 0" ∷ codes "refused 210 020-12345675" ∷ []
unfolding digits day_line
example_notify = refl
