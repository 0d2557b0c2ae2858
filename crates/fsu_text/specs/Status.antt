-- Status lines: `RCS/12JAN1030/FRA/T10K100.0/ACME`.
use Rattle.std.specs.Prelude.{ℕ, List, [], ◌∷◌, take, drop, Option, Some, None, codes, option_map}
use Rattle.fsu_text.specs.Common.{join_with_byte, bytes_eq, ◌>>=◌, where_true, or_else, fields, quantity_of, quantity_text, written_code, Designator, flight_of, airport_of, is_name, CalendarDay, When, date_time_of, optional_time_of, Quantity, Discrepancy, Offloaded, Missing, Found, Carriage}
use Rattle.fsu_text.specs.declared.status.Handling.{Handling}
use Rattle.fsu_text.specs.declared.status.Handling.TheVariants.{ReceivedFromShipper, Notified, Delivered}
use Rattle.fsu_text.specs.declared.status.Carriage.TheVariants.{Booked, Manifested, Departed}

-- a date with an optional time
pub record Day : Type 0 where
  pub date : CalendarDay
  pub minute : Option ℕ

pub data Reading : Type 0 where
  Handled : Handling → When → List ℕ → Quantity → List ℕ → Reading
  ReceivedFromFlight : Designator → When → List ℕ → Quantity → Reading
  Carried : Carriage → Designator → Day → List ℕ → List ℕ → Quantity → Reading
  Differs : Designator → Day → List ℕ → Discrepancy → Quantity → Reading

-- RCS received from shipper or agent, NFD consignee notified, DLV delivered
abbrev pub handling_code : Handling → List ℕ
handling_code ReceivedFromShipper = codes "RCS"
handling_code Notified = codes "NFD"
handling_code Delivered = codes "DLV"

-- BKD booked, MAN manifested, DEP departed
abbrev pub carriage_code : Carriage → List ℕ
carriage_code Booked = codes "BKD"
carriage_code Manifested = codes "MAN"
carriage_code Departed = codes "DEP"

-- OFLD offloaded, MSCA missing cargo, FDCA found cargo
abbrev pub discrepancy_code : Discrepancy → List ℕ
discrepancy_code Offloaded = codes "OFLD"
discrepancy_code Missing = codes "MSCA"
discrepancy_code Found = codes "FDCA"

-- the value whose code this text is
abbrev pub coded : {A : Type 0} → (A → List ℕ) → A → List ℕ → Option A
coded code x text = where_true (bytes_eq (code x) text) x

abbrev pub handling_of : List ℕ → Option Handling
handling_of text =
    or_else (coded handling_code ReceivedFromShipper text)
    (or_else (coded handling_code Notified text) (coded handling_code Delivered text))

abbrev pub carriage_of : List ℕ → Option Carriage
carriage_of text =
    or_else (coded carriage_code Booked text)
    (or_else (coded carriage_code Manifested text) (coded carriage_code Departed text))

abbrev pub discrepancy_of : List ℕ → Option Discrepancy
discrepancy_of text =
    or_else (coded discrepancy_code Offloaded text)
    (or_else (coded discrepancy_code Missing text) (coded discrepancy_code Found text))

-- `12JAN` or `12JAN1030`
abbrev pub day_of : List ℕ → Option Day
day_of text = option_map (λ both. record { date = both.0; minute = both.1 }) (optional_time_of text)

abbrev pub name_of : List ℕ → Option (List ℕ)
name_of text = where_true (is_name text) text

-- RCS, NFD and DLV: `CODE/12JAN1030/FRA/quantity`, and an optional slash and name, which is all the
-- rest
abbrev pub handled_by : (code at airport quantity name : List ℕ) → Option Reading
handled_by code at airport quantity name = do
  event ← handling_of code
  time ← date_time_of at
  place ← airport_of airport
  amount ← quantity_of quantity
  who ← name_of name
  Some (Handled event time place amount who)

abbrev pub handled_of : List (List ℕ) → Option Reading
handled_of (code ∷ at ∷ airport ∷ quantity ∷ name) = handled_by code at airport quantity (join_with_byte 47 name)
handled_of _ = None

-- `RCF/flight/12JAN1030/FRA/quantity`
abbrev pub received_by : (code flight at airport quantity : List ℕ) → Option Reading
received_by code flight at airport quantity = do
  rcf ← where_true (bytes_eq (codes "RCF") code) code
  on ← flight_of flight
  time ← date_time_of at
  place ← airport_of airport
  amount ← quantity_of quantity
  Some (ReceivedFromFlight on time place amount)

abbrev pub received_of : List (List ℕ) → Option Reading
received_of (code ∷ flight ∷ at ∷ airport ∷ quantity ∷ []) = received_by code flight at airport quantity
received_of _ = None

-- two airports: `FRAJFK`
abbrev pub route_of : List ℕ → Option (List ℕ × List ℕ)
route_of text = do
  from ← airport_of (take 3 text)
  to ← airport_of (drop 3 text)
  Some (from, to)

-- BKD, MAN and DEP: `CODE/flight/12JAN/FRAJFK/quantity`, with an optional time; anything after a
-- further slash is ignored
abbrev pub carried_by : (code flight date route quantity : List ℕ) → Option Reading
carried_by code flight date route quantity = do
  event ← carriage_of code
  on ← flight_of flight
  day ← day_of date
  stations ← route_of route
  amount ← quantity_of quantity
  Some (Carried event on day stations.0 stations.1 amount)

abbrev pub carried_of : List (List ℕ) → Option Reading
carried_of (code ∷ flight ∷ date ∷ route ∷ quantity ∷ unread) = carried_by code flight date route quantity
carried_of _ = None

-- `DIS/flight/12JAN/FRA/code/quantity`, with an optional time
abbrev pub differs_by : (code flight date airport discrepancy quantity : List ℕ) → Option Reading
differs_by code flight date airport discrepancy quantity = do
  dis ← where_true (bytes_eq (codes "DIS") code) code
  on ← flight_of flight
  day ← day_of date
  place ← airport_of airport
  what ← discrepancy_of discrepancy
  amount ← quantity_of quantity
  Some (Differs on day place what amount)

abbrev pub differs_of : List (List ℕ) → Option Reading
differs_of (code ∷ flight ∷ date ∷ airport ∷ discrepancy ∷ quantity ∷ []) = differs_by code flight date airport discrepancy quantity
differs_of _ = None

-- the reading of a status line, if it has one of these layouts
abbrev pub status_of : List ℕ → Option Reading
status_of line =
    or_else (handled_of (fields line))
    (or_else (received_of (fields line)) (or_else (carried_of (fields line)) (differs_of (fields line))))

-- the written quantity, if `declared` pieces were declared
abbrev pub amount_text : ℕ → ℕ → ℕ → List ℕ
amount_text pieces tenths declared = quantity_text (written_code pieces declared) pieces tenths None

-- an empty name is left out with its slash
abbrev pub name_tail : List ℕ → List ℕ
name_tail [] = []
name_tail (b ∷ name) = 47 ∷ b ∷ name
