-- Flight manifest messages.
use Rattle.std.specs.Prelude.{filter, ◌≡◌, ℕ, Bool, false, ◌&&◌, ◌||◌, ◌==◌, not, nat_eq, is_some, if◌then◌else◌, MatchBool, List, [], ◌∷◌, ◌++◌, length, take, drop, map, filter_map, slice_get, slice_index, slice_range, Option, Some, None, Result, Ok, Err, IsTrue, codes, option_and_then, ◌≤◌, true}
use Rattle.ffm_text.specs.Common.{AllZip, list_all, list_any, starts_with, last_or, bytes_eq, is_digit, fields, count_of, written_code, Designator, flight_of, flight_text, is_airport, airport_of, CalendarDay, optional_time_of, two_digits_of, month_of, date_text, Shipment, WrittenLine, consignment_of, consignment_text, shipment_written, shipment_of, HasSpans, is_head, unless_true, err_of, fault_in, ◌>>=◌, need, Why, TextFault, Token, IsNumber, number_text, IsPieces, IsBookTenths, is_goods, IsDesignator, most_waybills, IsCalendarDay, quantity_text}
use Rattle.imp_fields.specs.declared.fault.Why.TheVariants as why
use Rattle.ffm_text.specs.declared.Ffm.{Ffm}
use Rattle.ffm_text.specs.declared.FfmLine.{FfmLine}
use Rattle.ffm_text.specs.declared.Load.{Load}
use Rattle.ffm_text.specs.declared.flight_line.Part.{Part}
use Rattle.ffm_text.specs.declared.cargo.ManifestScan.{ManifestScan}

-- Flight manifest messages: a head, a flight line, lines of cargo, and a last line.

-- the part and the flight of a manifest, and the airport of loading
pub record FlightLine : Type 0 where
  pub sequence : ℕ
  pub flight : Designator
  pub date : CalendarDay
  pub loaded : List ℕ

-- a shipment, with its point of unloading
pub record Unloaded : Type 0 where
  pub unload : List ℕ
  pub shipment : Shipment

pub record Manifest : Type 0 where
  pub part : FlightLine
  pub cargo : List Unloaded

-- a field of a line, cut at slashes
abbrev pub field : List ℕ → ℕ → Option (List ℕ)
field line k = slice_get (fields line) k

-- the date of a field, without its time
abbrev pub date_in : List ℕ → Option CalendarDay
date_in text = option_and_then (λ both. Some both.0) (optional_time_of text)

-- `1/LH400/12JAN/FRA`: the fields are tested from the left, and anything after a further slash is
-- ignored
abbrev pub flight_line_of : List ℕ → Result FlightLine Why
flight_line_of line = do
  sequence ← need (option_and_then count_of (field line 0)) why.Flight
  flight ← need (option_and_then flight_of (field line 1)) why.Flight
  day ← need (field line 2) why.Flight
  date ← need (date_in day) why.Date
  loaded ← need (option_and_then airport_of (field line 3)) why.Flight
  Ok (record { sequence = sequence; flight = flight; date = date; loaded = loaded })

-- lines that look like a point of unloading and aren't
abbrev pub is_remark : List ℕ → Bool
is_remark line =
    list_any (starts_with nat_eq line)
    (codes "ULD/" ∷ codes "DIM/" ∷ codes "OSI/" ∷ codes "SCI/" ∷ codes "OCI/" ∷ codes "COR/" ∷ [])

-- the text that may follow a point of unloading: none, `/NIL`, or a slash, two digits, a month and
-- anything
abbrev pub may_follow_point : List ℕ → Bool
may_follow_point rest =
    (length rest == 0) || bytes_eq rest (codes "/NIL")
    || ((slice_index rest 0 == 47) && is_some (two_digits_of (slice_range rest 1 3)) && is_some (month_of (slice_range rest 3 6)))

-- `JFK`, `JFK/NIL` or `JFK/13JAN1430`
abbrev pub unloading_point : List ℕ → Option (List ℕ)
unloading_point line =
    if is_airport (take 3 line) && may_follow_point (drop 3 line) && not (is_remark line) then Some (take 3 line) else None

-- the last point of unloading among the lines above
abbrev pub last_point : List (List ℕ) → Option (List ℕ)
last_point above = last_or None (filter_map unloading_point above)

-- a line that begins with three digits and a hyphen must be a consignment line
abbrev pub is_cargo_line : List ℕ → Bool
is_cargo_line line = list_all is_digit (take 3 line) && (slice_index line 3 == 45)

-- The cargo of the lines after those above: each cargo line is a consignment line, and is unloaded
-- at the last point above it.
abbrev pub IsCargo : List (List ℕ) → List (List ℕ) → List Unloaded → Type 0
IsCargo above [] [] = Unit {0}
IsCargo above [] (u ∷ cargo) = ⊥
IsCargo above (line ∷ below) [] = IsTrue (not (is_cargo_line line)) × IsCargo (above ++ line ∷ []) below []
IsCargo above (line ∷ below) (u ∷ cargo) =
    MatchBool (is_cargo_line line)
    ((consignment_of line ≡ Ok u.shipment) × (last_point above ≡ Some u.unload) × IsCargo (above ++ line ∷ []) below cargo)
    (IsCargo (above ++ line ∷ []) below (u ∷ cargo))

abbrev pub is_last_line : List ℕ → Bool
is_last_line line = bytes_eq line (codes "LAST") || bytes_eq line (codes "CONT")

-- the last line, after the flight line, says whether another part follows
abbrev pub has_last_line : List (List ℕ) → Bool
has_last_line [] = false
has_last_line (line ∷ []) = is_last_line line
has_last_line (line ∷ next ∷ below) = has_last_line (next ∷ below)

abbrev pub IsFfm : List (List ℕ) → Manifest → Type 0
IsFfm [] m = ⊥
IsFfm (head ∷ []) m = ⊥
IsFfm (head ∷ flight ∷ below) m =
    IsTrue (is_head (codes "FFM") head) × (flight_line_of flight ≡ Ok m.part) × IsCargo [] below m.cargo
    × IsTrue (has_last_line below)

-- a consignment line above the first point of unloading is out of order, tested after its form
abbrev pub ordered_fault : Result Shipment Why → Option (List ℕ) → Option Why
ordered_fault (Err why) point = Some why
ordered_fault (Ok s) point = unless_true (is_some point) why.Order

abbrev pub cargo_fault : List (List ℕ) → List ℕ → Option Why
cargo_fault above line = if is_cargo_line line then ordered_fault (consignment_of line) (last_point above) else None

abbrev pub cargo_faults : List (List ℕ) → List (List ℕ) → List (Option Why)
cargo_faults above [] = []
cargo_faults above (line ∷ below) = cargo_fault above line ∷ cargo_faults (above ++ line ∷ []) below

abbrev pub ffm_line_faults : List (List ℕ) → List (Option Why)
ffm_line_faults [] = []
ffm_line_faults (head ∷ []) = unless_true (is_head (codes "FFM") head) why.Head ∷ []
ffm_line_faults (head ∷ flight ∷ below) =
    unless_true (is_head (codes "FFM") head) why.Head ∷ err_of (flight_line_of flight) ∷ cargo_faults [] below

-- the fault of lines that aren't a part of a manifest
abbrev pub ffm_fault : List (List ℕ) → Option TextFault
ffm_fault lines = fault_in lines (ffm_line_faults lines) (has_last_line (drop 2 lines))

abbrev pub part_of : Part → FlightLine
part_of p = record { sequence = p.sequence; flight = p.flight; date = p.date; loaded = p.loaded }

abbrev pub unloaded_of : FfmLine → Unloaded
unloaded_of l = record { unload = l.unload; shipment = shipment_of l.consignment }

abbrev pub manifest_of : Ffm → Manifest
manifest_of m = record {
  part = record { sequence = m.sequence; flight = m.flight; date = m.date; loaded = m.loaded };
  cargo = map unloaded_of m.cargo.items;
}

-- the written line of a load: code T if all declared pieces are on the flight, otherwise P and the
-- declared total
abbrev pub cargo_of : Load → WrittenLine
cargo_of l = record {
  awb = l.awb;
  origin = l.origin;
  destination = l.destination;
  code = written_code l.pieces l.declared;
  pieces = l.pieces;
  tenths = l.tenths;
  total = if l.pieces == l.declared then None else Some l.declared;
  goods = l.goods;
}

-- the lines of a written manifest: one part, one point of unloading
abbrev pub flight_line_text : Designator → CalendarDay → List ℕ → List ℕ
flight_line_text flight date here = codes "1/" ++ flight_text flight ++ (47 ∷ []) ++ date_text date ++ (47 ∷ []) ++ here

abbrev pub ffm_lines : Designator → CalendarDay → List ℕ → List ℕ → List Load → List (List ℕ)
ffm_lines flight date here unload loads =
    (codes "FFM/8" ∷ flight_line_text flight date here ∷ unload ∷ map (λ l. consignment_text (cargo_of l)) loads) ++ codes "LAST" ∷ []

abbrev pub manifest_written : Designator → CalendarDay → List ℕ → List ℕ → List Load → Manifest
manifest_written flight date here unload loads = record {
  part = record { sequence = 1; flight = flight; date = date; loaded = here };
  cargo = map (λ l. record { unload = unload; shipment = shipment_written (cargo_of l) }) loads;
}

-- the fields of each consignment are in its line
abbrev pub HasFfmSpans : List (List ℕ) → Ffm → Type 0
HasFfmSpans lines m = AllZip HasSpans (filter is_cargo_line (drop 2 lines)) (map (λ l. l.consignment) m.cargo.items)

-- The state of a scan over the lines after a manifest's flight line.

abbrev pub texts_of : List Token → List (List ℕ)
texts_of tokens = map (λ t. t.text.now) tokens

-- exactly the consignment lines among some lines, with their fields
pub record AreCargo (lines : List (List ℕ)) (cargo : List FfmLine) : Type 0 where
  pub read : IsCargo [] lines (map unloaded_of cargo)
  pub spans : AllZip HasSpans (filter is_cargo_line lines) (map (λ l. l.consignment) cargo)

-- the state after these lines
pub record IsScan (lines : List (List ℕ)) (s : ManifestScan) : Type 0 where
  pub point : s.point ≡ last_point lines
  pub cargo : AreCargo lines s.cargo.items

-- The text that writing a manifest appends.

-- the first text is a prefix of the second
abbrev pub Begins : List ℕ → List ℕ → Type 0
Begins front text = take (length front) text ≡ front

abbrev pub line_text : List ℕ → List ℕ
line_text line = line ++ (13 ∷ 10 ∷ [])

abbrev pub load_line : Load → List ℕ
load_line l = consignment_text (cargo_of l)

abbrev pub route_text : Load → List ℕ
route_text l = number_text l.awb ++ l.origin ++ l.destination ++ (47 ∷ [])

abbrev pub amount_text : Load → List ℕ
amount_text l = quantity_text (cargo_of l).code l.pieces l.tenths (cargo_of l).total

-- a load that the types of its fields allow
pub record IsLoad (l : Load) : Type 0 where
  pub awb : IsNumber l.awb
  pub origin : is_airport l.origin ≡ true
  pub destination : is_airport l.destination ≡ true
  pub pieces : IsPieces l.pieces
  pub tenths : IsBookTenths l.tenths
  pub declared : IsPieces l.declared
  pub goods : is_goods l.goods ≡ true

abbrev pub AreLoads : List Load → Type 0
AreLoads [] = Unit {0}
AreLoads (l ∷ loads) = IsLoad l × AreLoads loads

-- the values of a written manifest, as the types allow them
pub record AreWritten (flight : Designator) (date : CalendarDay) (here unload : List ℕ) (loads : List Load) : Type 0 where
  pub designator : IsDesignator flight
  pub calendar_day : IsCalendarDay date
  pub from : is_airport here ≡ true
  pub to : is_airport unload ≡ true
  pub each : AreLoads loads
  pub few : length loads ≤ most_waybills
