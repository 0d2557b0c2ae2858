-- Worked examples of manifests, computed.
use Rattle.ffm_text.proofs.Common.{Bool, CalendarDay, Designator, Err, IsFfm, List, Load, Manifest, None, Ok, Option, Result, Shipment, ShipmentCode, Some, TextFault, Unloaded, Why, [], codes, fault_at, ffm_fault, ffm_lines, flight_line_of, if◌then◌else◌, key_of, length, manifest_written, nat_le, nat_lt, normal_lines, refl, sent_text, suc, take, true, unloading_point, zero, ℕ, ◌&&◌, ◌++◌, ◌==◌, ◌∷◌, ◌≡◌}
use Rattle.std.specs.Fmt.{digits}
use Rattle.imp_fields.specs.declared.fault.Why.TheVariants as why
use Rattle.imp_fields.specs.declared.amount.ShipmentCode.TheVariants.{Split}

abbrev shipment : ShipmentCode → ℕ → ℕ → Option ℕ → List ℕ → Shipment
shipment code pieces tenths total goods = record {
  awb = key_of 20 1234567;
  origin = codes "FRA";
  destination = codes "JFK";
  quantity = record { code = code; pieces = pieces; weight = Some tenths; total = total };
  goods = goods;
}

abbrev manifest : ℕ → List Unloaded → Manifest
manifest sequence cargo = record {
  part = record {
    sequence = sequence;
    flight = record { carrier = codes "LH"; number = 400; suffix = None };
    date = record { day = 12; month = 1 };
    loaded = codes "FRA";
  };
  cargo = cargo;
}

abbrev at_jfk : Shipment → Unloaded
at_jfk s = record { unload = codes "JFK"; shipment = s }

-- a manifest with lines that are not read
abbrev long_manifest : List (List ℕ)
long_manifest =
    codes "FFM/8" ∷ codes "12/LH400/12JAN/FRA/X" ∷ codes "JFK/13JAN1430" ∷ codes "ULD/AKE12345LH"
    ∷ codes "020-12345675FRAJFK/S4K40.0T10/CARGO" ∷ codes "DIM/K1" ∷ codes "" ∷ codes "MUC/NIL" ∷ codes "CONT" ∷ []

long_manifest_read : IsFfm long_manifest (manifest 12 (at_jfk (shipment Split 4 400 (Some 10) (codes "CARGO")) ∷ []))
long_manifest_read = (refl, refl, (refl, refl, (refl, (refl, (refl, (refl, tt))))), refl)

long_manifest_faultless : ffm_fault long_manifest ≡ None
long_manifest_faultless = refl

abbrev received : List (List ℕ)
received =
    codes "FFM/8" ∷ codes "1/LH0400/12JAN1030/FRA" ∷ codes "JFK" ∷ codes "020-12345675FRAJFK/T10K100.0/CARGO" ∷ codes "LAST" ∷ []

received_faultless : ffm_fault received ≡ None
received_faultless = refl

without_last_line : ffm_fault (take 4 received) ≡ Some (fault_at 4 why.Ending)
without_last_line = refl

abbrev line : List ℕ
line = codes "020-12345675FRAJFK/P4K40.0T10/CARGO"

before_the_first_point : ffm_fault (codes "FFM/8" ∷ codes "1/LH400/12JAN/FRA" ∷ line ∷ codes "LAST" ∷ []) ≡ Some (fault_at 3 why.Order)
before_the_first_point = refl

-- a faulty line is reported before a missing one
order_before_ending : ffm_fault (codes "FFM/8" ∷ codes "1/LH400/12JAN/FRA" ∷ line ∷ []) ≡ Some (fault_at 3 why.Order)
order_before_ending = refl

-- the form is tested before the order
form_before_order : ffm_fault (codes "FFM/8" ∷ codes "1/LH400/12JAN/FRA" ∷ codes "020-X" ∷ codes "LAST" ∷ []) ≡ Some (fault_at 3 why.Consignment)
form_before_order = refl

wrong_check_digit : ffm_fault (codes "FFM/8" ∷ codes "1/LH400/12JAN/FRA" ∷ codes "JFK" ∷ codes "020-12345674FRAJFK/P4K40.0T10/CARGO" ∷ codes "LAST" ∷ []) ≡ Some (fault_at 4 why.Number)
wrong_check_digit = refl

no_consignment : ffm_fault (codes "FFM/8" ∷ codes "1/LH400/12JAN/FRA" ∷ codes "JFK" ∷ codes "020-X" ∷ codes "LAST" ∷ []) ≡ Some (fault_at 4 why.Consignment)
no_consignment = refl

head_alone : ffm_fault (codes "FFM/8" ∷ []) ≡ Some (fault_at 1 why.Ending)
head_alone = refl

no_cargo : ffm_fault (codes "FFM/8" ∷ codes "1/LH400/12JAN/FRA" ∷ codes "LAST" ∷ []) ≡ None
no_cargo = refl

-- the last line cannot stand for the flight line
no_flight_line : ffm_fault (codes "FFM/8" ∷ codes "LAST" ∷ []) ≡ Some (fault_at 2 why.Flight)
no_flight_line = refl

bad_head_first : ffm_fault (codes "FFM/" ∷ codes "LAST" ∷ []) ≡ Some (fault_at 1 why.Head)
bad_head_first = refl

date_of_no_form : flight_line_of (codes "1/LH400/32JAN/FRA") ≡ Err why.Date
date_of_no_form = refl

time_of_no_form : flight_line_of (codes "1/LH400/12JAN2560/FRA") ≡ Err why.Date
time_of_no_form = refl

-- the fields are tested from the left
date_before_airport : flight_line_of (codes "1/LH400/X") ≡ Err why.Date
date_before_airport = refl

no_date : flight_line_of (codes "1/LH400") ≡ Err why.Flight
no_date = refl

no_airport : flight_line_of (codes "1/LH400/12JAN") ≡ Err why.Flight
no_airport = refl

flight_before_date : flight_line_of (codes "1/LH/X/FRA") ≡ Err why.Flight
flight_before_date = refl

sequence_zero : flight_line_of (codes "0/LH400/12JAN/FRA") ≡ Err why.Flight
sequence_zero = refl

zeros_in_front : flight_line_of (codes "0012/LH0400/12JAN/FRA") ≡ flight_line_of (codes "12/LH400/12JAN/FRA/X")
zeros_in_front = refl

-- a date of that form which no year has is refused by the step alone
no_such_date : flight_line_of (codes "1/LH400/31FEB/FRA") ≡ Ok (record {
  sequence = 1;
  flight = record { carrier = codes "LH"; number = 400; suffix = None };
  date = record { day = 31; month = 2 };
  loaded = codes "FRA";
})
no_such_date = refl

point_alone : unloading_point (codes "JFK") ≡ Some (codes "JFK")
point_alone = refl

point_without_goods : unloading_point (codes "MUC/NIL") ≡ Some (codes "MUC")
point_without_goods = refl

point_with_a_date : unloading_point (codes "JFK/13JAN1430") ≡ Some (codes "JFK")
point_with_a_date = refl

point_with_anything : unloading_point (codes "JFK/X") ≡ None
point_with_anything = refl

dimensions : unloading_point (codes "DIM/12JAN") ≡ None
dimensions = refl

point_named_like_a_remark : unloading_point (codes "ULD") ≡ Some (codes "ULD")
point_named_like_a_remark = refl

four_letters : unloading_point (codes "LAST") ≡ None
four_letters = refl

abbrev departed : Load
departed = record {
  awb = key_of 20 1234567;
  origin = codes "FRA";
  destination = codes "JFK";
  pieces = 4;
  tenths = 400;
  declared = 10;
  goods = codes "CARGO";
}

abbrev lh400 : Designator
lh400 = record { carrier = codes "LH"; number = 400; suffix = None }

abbrev twelfth_of_january : CalendarDay
twelfth_of_january = record { day = 12; month = 1 }

abbrev written : List (List ℕ)
written = codes "FFM/8" ∷ codes "1/LH400/12JAN/FRA" ∷ codes "JFK" ∷ line ∷ codes "LAST" ∷ []

written_lines : ffm_lines lh400 twelfth_of_january (codes "FRA") (codes "JFK") (departed ∷ []) ≡ written
unfolding digits
written_lines = refl

written_bytes : length (sent_text written) ≡ 74
written_bytes = refl

written_normal : normal_lines (sent_text written) ≡ Ok written
written_normal = refl

written_read : IsFfm written (manifest_written lh400 twelfth_of_january (codes "FRA") (codes "JFK") (departed ∷ []))
written_read = (refl, refl, (refl, refl, (refl, tt)), refl)

-- the received manifest as bytes with newlines alone
abbrev typed : List (List ℕ) → List ℕ
typed [] = []
typed (line ∷ lines) = line ++ (10 ∷ []) ++ typed lines

received_bytes : length (typed received) ≡ 73
received_bytes = refl

-- the fault of a telegram's bytes, read as a manifest
abbrev fault_of_lines : Result (List (List ℕ)) TextFault → Option TextFault
fault_of_lines (Ok lines) = ffm_fault lines
fault_of_lines (Err fault) = Some fault

abbrev fault_of : List ℕ → Option TextFault
fault_of bytes = fault_of_lines (normal_lines bytes)

-- what is reported of the first n bytes: 1 no kind, 2 another fault, 0 none
abbrev told_of : Option TextFault → ℕ
told_of None = 0
told_of (Some fault) = told_by fault.why
  where
    told_by : Why → ℕ
    told_by why.Kind = 1
    told_by _ = 2

abbrev expected : ℕ → ℕ
expected n = if nat_lt n 4 then 1 else (if nat_le n 71 then 2 else 0)

-- each beginning of the bytes is reported so, from the first n bytes down
abbrev each_beginning : ℕ → Bool
each_beginning zero = told_of (fault_of (take 0 (typed received))) == expected 0
each_beginning (suc n) = (told_of (fault_of (take (suc n) (typed received))) == expected (suc n)) && each_beginning n

truncated : each_beginning 73 ≡ true
truncated = refl
