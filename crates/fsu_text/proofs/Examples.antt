-- Worked examples of status updates, computed.
use Rattle.fsu_text.proofs.Common.{CalendarDay, Carried, Day, Designator, Differs, Handled, IsFsu, List, None, Ok, Option, Part, Quantity, ReceivedFromFlight, SentStatus, SentUpdate, Shipment, ShipmentCode, Some, Total, When, [], codes, fault_at, fsu_fault, fsu_lines, key_of, length, normal_lines, refl, sent_status_reading, sent_status_text, sent_text, status_of, take, update_written, ℕ, ◌∷◌, ◌≡◌}
use Rattle.std.specs.Fmt.{digits}
use Rattle.imp_fields.specs.declared.fault.Why.TheVariants as why
use Rattle.fsu_text.specs.declared.status.Handling.TheVariants.{ReceivedFromShipper, Notified, Delivered}
use Rattle.fsu_text.specs.declared.status.Carriage.TheVariants.{Manifested, Departed}
use Rattle.imp_fields.specs.declared.line.Discrepancy.TheVariants.{Offloaded, Missing, Found}
use Rattle.imp_fields.specs.declared.line.WaybillSummary.{WaybillSummary}
use Rattle.fsu_text.specs.declared.sent.SentStatus.TheVariants as sent
use Rattle.fsu_text.specs.declared.sent.SentCarriage.TheVariants as leaving

abbrev quantity : ShipmentCode → ℕ → Option ℕ → Quantity
quantity code pieces weight = record { code = code; pieces = pieces; weight = weight; total = None }

abbrev shipment : Shipment
shipment = record {
  awb = key_of 20 1234567;
  origin = codes "FRA";
  destination = codes "JFK";
  quantity = quantity Total 10 (Some 1000);
  goods = [];
}

abbrev on_12_jan : CalendarDay
on_12_jan = record { day = 12; month = 1 }

abbrev lh400 : Designator
lh400 = record { carrier = codes "LH"; number = 400; suffix = None }

abbrev at : ℕ → When
at minute = record { date = on_12_jan; minute = minute }

abbrev day_at : Option ℕ → Day
day_at minute = record { date = on_12_jan; minute = minute }

abbrev received : List (List ℕ)
received = codes "FSU/12" ∷ codes "020-12345675FRAJFK/T10K100.0" ∷ codes "RCS/12JAN1030/FRA/T10K100.0/ACME" ∷ []

received_read : IsFsu received (record { shipment = shipment; trail = codes "RCS/12JAN1030/FRA/T10K100.0/ACME" ∷ [] })
received_read = (refl, refl, refl)

received_faultless : fsu_fault received ≡ None
received_faultless = refl

received_bytes : length (sent_text received) ≡ 72
received_bytes = refl

received_normal : normal_lines (sent_text received) ≡ Ok received
received_normal = refl

-- lines of no known layout are kept as they are
abbrev kept : List (List ℕ)
kept = codes "FSU/12" ∷ codes "020-12345675FRAJFK/T10K100.0" ∷ codes "RCS/12JAN2560/FRA/T1" ∷ codes "ARR/LH400/12JAN/JFK" ∷ []

kept_read : IsFsu kept (record { shipment = shipment; trail = codes "RCS/12JAN2560/FRA/T1" ∷ codes "ARR/LH400/12JAN/JFK" ∷ [] })
kept_read = (refl, refl, refl)

hour_twenty_five : status_of (codes "RCS/12JAN2560/FRA/T1") ≡ None
hour_twenty_five = refl

arrival : status_of (codes "ARR/LH400/12JAN/JFK") ≡ None
arrival = refl

without_status_lines : fsu_fault (take 2 kept) ≡ Some (fault_at 2 why.Ending)
without_status_lines = refl

head_alone : fsu_fault (codes "FSU/12" ∷ []) ≡ Some (fault_at 1 why.Ending)
head_alone = refl

bad_quantity : fsu_fault (codes "FSU/12" ∷ codes "020-12345675FRAJFK/X" ∷ []) ≡ Some (fault_at 2 why.Quantity)
bad_quantity = refl

received_status : status_of (codes "RCS/12JAN1030/FRA/T10K100.0/ACME") ≡ Some (Handled ReceivedFromShipper (at 630) (codes "FRA") (quantity Total 10 (Some 1000)) (codes "ACME"))
received_status = refl

-- a name of 36 bytes is none
long_name : status_of (codes "DLV/12JAN1030/FRA/P1/ABCDEFGHIJKLMNOPQRSTUVWXYZABCDEFGHIJ") ≡ None
long_name = refl

-- a name may hold slashes
name_with_a_slash : status_of (codes "DLV/12JAN1030/FRA/P1/ACME/B") ≡ Some (Handled Delivered (at 630) (codes "FRA") (quantity Part 1 None) (codes "ACME/B"))
name_with_a_slash = refl

no_name : status_of (codes "NFD/12JAN1030/FRA/P1") ≡ Some (Handled Notified (at 630) (codes "FRA") (quantity Part 1 None) [])
no_name = refl

without_time : status_of (codes "RCS/12JAN/FRA/T1") ≡ None
without_time = refl

arrived : status_of (codes "RCF/LH400/12JAN1430/JFK/P7K70.0") ≡ Some (ReceivedFromFlight lh400 (at 870) (codes "JFK") (quantity Part 7 (Some 700)))
arrived = refl

arrived_with_more : status_of (codes "RCF/LH400/12JAN1430/JFK/P7K70.0/X") ≡ None
arrived_with_more = refl

manifested : status_of (codes "MAN/LH400/12JAN/FRAJFK/P4K40.0") ≡ Some (Carried Manifested lh400 (day_at None) (codes "FRA") (codes "JFK") (quantity Part 4 (Some 400)))
manifested = refl

departed : status_of (codes "DEP/LH400/12JAN1030/FRAJFK/P4K40.0/X/Y") ≡ Some (Carried Departed lh400 (day_at (Some 630)) (codes "FRA") (codes "JFK") (quantity Part 4 (Some 400)))
departed = refl

five_letters : status_of (codes "BKD/LH400/12JAN/FRAJF/P4K40.0") ≡ None
five_letters = refl

missing : status_of (codes "DIS/LH400/12JAN1430/JFK/MSCA/P3K30.0") ≡ Some (Differs lh400 (day_at (Some 870)) (codes "JFK") Missing (quantity Part 3 (Some 300)))
missing = refl

other_discrepancy : status_of (codes "DIS/LH400/12JAN1430/JFK/OVCD/P3K30.0") ≡ None
other_discrepancy = refl

lower_case : status_of (codes "rcs/12JAN1030/FRA/T1") ≡ None
lower_case = refl

empty_line : status_of [] ≡ None
empty_line = refl

-- ---- what is sent

abbrev declared : WaybillSummary
declared = record {
  awb = key_of 20 1234567;
  origin = codes "FRA";
  destination = codes "JFK";
  pieces = 10;
  tenths = 1000;
}

abbrev update : SentStatus → List ℕ → ℕ → ℕ → SentUpdate
update status here pieces tenths = record { «of» = declared; status = status; here = here; pieces = pieces; tenths = tenths }

abbrev status_line : SentUpdate → List ℕ
status_line u = sent_status_text u.status u

abbrev receipt : SentUpdate
receipt = update (sent.Handled ReceivedFromShipper (at 630) (codes "ACME")) (codes "FRA") 10 1000

receipt_lines : fsu_lines receipt ≡ received
unfolding digits
receipt_lines = refl

receipt_said : IsFsu received (update_written receipt)
unfolding digits
receipt_said = (refl, refl, refl)

receipt_read : status_of (status_line receipt) ≡ Some (sent_status_reading receipt.status receipt)
unfolding digits
receipt_read = refl

empty_name_left_out : status_line (update (sent.Handled Delivered (at 0) []) (codes "JFK") 1 33) ≡ codes "DLV/12JAN0000/JFK/P1K3.3"
unfolding digits
empty_name_left_out = refl

manifest_sent : status_line (update (sent.Carried leaving.Manifested lh400 on_12_jan (codes "JFK")) (codes "FRA") 4 400) ≡ codes "MAN/LH400/12JAN/FRAJFK/P4K40.0"
unfolding digits
manifest_sent = refl

departure_sent : status_line (update (sent.Carried leaving.Departed lh400 on_12_jan (codes "JFK")) (codes "FRA") 4 400) ≡ codes "DEP/LH400/12JAN/FRAJFK/P4K40.0"
unfolding digits
departure_sent = refl

arrival_sent : status_line (update (sent.ReceivedFromFlight lh400 (at 870)) (codes "JFK") 7 700) ≡ codes "RCF/LH400/12JAN1430/JFK/P7K70.0"
unfolding digits
arrival_sent = refl

arrival_of_more : status_line (update (sent.ReceivedFromFlight lh400 (at 870)) (codes "JFK") 12 1200) ≡ codes "RCF/LH400/12JAN1430/JFK/P12K120.0"
unfolding digits
arrival_of_more = refl

missing_sent : status_line (update (sent.Differs Missing lh400 (at 870)) (codes "JFK") 3 300) ≡ codes "DIS/LH400/12JAN1430/JFK/MSCA/P3K30.0"
unfolding digits
missing_sent = refl

all_missing_sent : status_line (update (sent.Differs Missing lh400 (at 870)) (codes "JFK") 10 1000) ≡ codes "DIS/LH400/12JAN1430/JFK/MSCA/T10K100.0"
unfolding digits
all_missing_sent = refl

found_sent : status_line (update (sent.Differs Found lh400 (at 870)) (codes "JFK") 2 200) ≡ codes "DIS/LH400/12JAN1430/JFK/FDCA/P2K20.0"
unfolding digits
found_sent = refl

offload_sent : status_line (update (sent.Differs Offloaded lh400 (at 870)) (codes "FRA") 2 66) ≡ codes "DIS/LH400/12JAN1430/FRA/OFLD/P2K6.6"
unfolding digits
offload_sent = refl
