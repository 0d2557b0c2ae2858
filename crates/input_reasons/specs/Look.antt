-- Dry runs of telegrams.
use Rattle.std.specs.Prelude.{ℕ, Bool, ◌&&◌, ◌||◌, ◌==◌, not, nat_eq, nat_le, List, length, take, filter, slice_range, codes, ◌≡◌, ◌⊎◌, ◌+◌, true, false, is_some, if◌then◌else◌, [], ◌∷◌, ◌++◌, map, take_while, drop, Option, Some, None, Ok, filter_map, decimal, flat_map}
use Rattle.input_reasons.specs.Common.{list_all, starts_with, is_digit, is_letter, is_message_line, list_any, slice_split, Shipment, consignment_of, fault_at, is_newline, line_without_end, lines_of, normal_lines, TextFault, is_cargo_line, unloading_point, CargoLine, InboundLine, day_in_year, Meant, cargo_line, refusal_of, telegram_fault, IsTelegram, Content, TelegramFault, join_by, boolean, string, compact_text, number_text, flight_text, date_text, PartContent, amount_text}
use Rattle.imp_fields.specs.declared.fault.Why.TheVariants as why
use Rattle.telegrams.specs.declared.telegram.Content.TheVariants as content
use Rattle.telegrams.specs.declared.telegram.TelegramFault.TheVariants as fault
use Rattle.input_reasons.specs.declared.look.DroppedLine.{DroppedLine}
use Rattle.input_reasons.specs.declared.look.LinePart.{LinePart}
use Rattle.input_reasons.specs.declared.look.LinePart.TheVariants.{Head, Flight, Point, Declared, Loaded, Waybill, Status, Last, Passed}
use Rattle.input_reasons.specs.declared.look.SeenLine.{SeenLine}
use Rattle.input_reasons.specs.declared.look.Look.{Look}

-- Doubtful lines.

-- a space, a hyphen or a slash
abbrev pub is_gap : ℕ → Bool
is_gap b = (b == 32) || (b == 45) || (b == 47)

-- a line without its spaces, hyphens and slashes
abbrev pub without_gaps : List ℕ → List ℕ
without_gaps line = filter (λ b. not (is_gap b)) line

-- a digit, or the letter O, which is mistaken for 0
abbrev pub is_digit_or_o : ℕ → Bool
is_digit_or_o b = is_digit b || (b == 79)

-- eleven digits, and the origin and the destination, of which two letters may be missing
abbrev pub begins_consignment : List ℕ → Bool
begins_consignment bare =
    nat_le 15 (length bare) && list_all is_digit_or_o (take 11 bare) && list_all is_letter (slice_range bare 11 15)

-- apart from spaces, hyphens and slashes the line begins like a consignment line; its check digit
-- isn't tested
abbrev pub resembles_consignment : List ℕ → Bool
resembles_consignment line = begins_consignment (without_gaps line)

-- a line without read fields begins a message, or resembles a consignment line
abbrev pub is_doubtful : List ℕ → Bool
is_doubtful line = is_message_line line || resembles_consignment line

-- a line before the message begins a message that answers another one, FNA or FMA
abbrev pub begins_answer : List ℕ → Bool
begins_answer line = starts_with nat_eq line (codes "FNA") || starts_with nat_eq line (codes "FMA")

-- Dry runs of telegrams: how each line is read.

-- the lines before the first one that begins a message
abbrev pub front_lines : List ℕ → List (List ℕ)
front_lines bytes = take_while (λ line. not (is_message_line line)) (map line_without_end (slice_split is_newline bytes))

abbrev pub dropped_line : List ℕ → DroppedLine
dropped_line text = record { text = text; doubtful = begins_answer text }

-- no field is read of a line that is ignored, or stored unchanged
abbrev pub is_unread : LinePart → Bool
is_unread Status = true
is_unread Passed = true
is_unread _ = false

-- a line, numbered from the message line
abbrev pub seen_line : ℕ → LinePart → List ℕ → SeenLine
seen_line number part text =
    record { number = number; part = part; text = text; doubtful = is_unread part && is_doubtful text }

abbrev pub second_part : Content → LinePart
second_part (content.Fwb cargo) = Declared cargo
second_part (content.Ffm part) = Flight
second_part (content.Fsu status) = Waybill

-- a cargo line has the next of the manifest's cargo
abbrev pub loaded_part : List InboundLine → LinePart
loaded_part [] = Passed
loaded_part (cargo ∷ left) = Loaded cargo

-- the reading of a line of a manifest after its flight line
abbrev pub manifest_part : List InboundLine → List ℕ → Bool → LinePart
manifest_part left line is_last =
    if is_cargo_line line then loaded_part left
    else (if is_some (unloading_point line) then Point else (if is_last then Last else Passed))

-- the reading of a line after the second: an FWB ignores it, an FSU stores it
abbrev pub lower_part : Content → List InboundLine → List ℕ → Bool → LinePart
lower_part (content.Fwb cargo) left line is_last = Passed
lower_part (content.Ffm part) left line is_last = manifest_part left line is_last
lower_part (content.Fsu status) left line is_last = Status

-- the cargo that remains after a line
abbrev pub left_behind : List ℕ → List InboundLine → List InboundLine
left_behind line left = if is_cargo_line line then drop 1 left else left

-- the lines after the second; the first has this number
abbrev pub lower_lines : Content → ℕ → List InboundLine → List (List ℕ) → List SeenLine
lower_lines says number left [] = []
lower_lines says number left (line ∷ lines) =
    seen_line number (lower_part says left line (length lines == 0)) line
    ∷ lower_lines says (number + 1) (left_behind line left) lines

abbrev pub cargo_of : Content → List InboundLine
cargo_of (content.Fwb cargo) = []
cargo_of (content.Ffm part) = part.lines
cargo_of (content.Fsu status) = []

-- the lines of a message, from its message line on
abbrev pub seen_lines : Content → List (List ℕ) → List SeenLine
seen_lines says [] = []
seen_lines says (head ∷ []) = seen_line 1 Head head ∷ []
seen_lines says (head ∷ second ∷ lower) =
    seen_line 1 Head head ∷ seen_line 2 (second_part says) second ∷ lower_lines says 3 (cargo_of says) lower

-- the flight's day isn't even a day of a leap year, 2000
abbrev pub has_no_day : Content → Bool
has_no_day (content.Fwb cargo) = false
has_no_day (content.Ffm part) = not (is_some (day_in_year part.date 2000))
has_no_day (content.Fsu status) = false

-- the fault of bytes that aren't a telegram, or of a manifest whose flight's day no year has
abbrev pub IsLookFault : List ℕ → TextFault → Type 0
IsLookFault bytes told =
    (telegram_fault bytes ≡ Some told)
    ⊎ ((t : Meant) × IsTelegram bytes t × (has_no_day t.content ≡ true) × (told ≡ fault_at 2 why.Date))

-- a refusal is that of the fault; if memory runs out there is no guarantee
abbrev pub RefusesLook : List ℕ → TelegramFault → Type 0
RefusesLook bytes (fault.Refused refusal) =
    (told : TextFault) × IsLookFault bytes told × (refusal ≡ refusal_of told)
RefusesLook bytes fault.Memory = Unit {0}

-- the dry run of the telegram in these bytes
pub record IsLook (bytes : List ℕ) (look : Look) : Type 0 where
  pub telegram : IsTelegram bytes look.telegram
  pub day : has_no_day look.telegram.content ≡ false
  pub front : List (List ℕ)
  pub lines : List (List ℕ)
  pub normal : normal_lines bytes ≡ Ok lines
  pub whole : front ++ lines ≡ lines_of bytes
  pub dropped : look.dropped.items ≡ map dropped_line front
  pub seen : look.lines.items ≡ seen_lines look.telegram.content lines

abbrev pub has_doubt : Look → Bool
has_doubt look = list_any (λ (l : DroppedLine). l.doubtful) look.dropped.items || list_any (λ (l : SeenLine). l.doubtful) look.lines.items

abbrev pub dropped_texts : List DroppedLine → List (List ℕ)
dropped_texts lines = map (λ (l : DroppedLine). l.text) lines

abbrev pub seen_texts : List SeenLine → List (List ℕ)
seen_texts lines = map (λ (l : SeenLine). l.text) lines

-- the lines are numbered in order
abbrev pub AreNumbered : ℕ → List SeenLine → Type 0
AreNumbered number [] = Unit {0}
AreNumbered number (line ∷ lines) = (line.number ≡ number) × AreNumbered (number + 1) lines

-- the cargo of a consignment line is that of its text
abbrev pub SaysCargo : List ℕ → CargoLine → Type 0
SaysCargo text cargo = (s : Shipment) × (consignment_of text ≡ Ok s) × (cargo ≡ cargo_line s)

abbrev pub IsReadFrom : List ℕ → LinePart → Type 0
IsReadFrom text (Declared cargo) = SaysCargo text cargo
IsReadFrom text (Loaded line) = SaysCargo text line.cargo
IsReadFrom text _ = Unit {0}

abbrev pub AreRead : List SeenLine → Type 0
AreRead [] = Unit {0}
AreRead (line ∷ lines) = IsReadFrom line.text line.part × AreRead lines

-- the cargo of a manifest's line
abbrev pub loaded_in : LinePart → Option InboundLine
loaded_in (Loaded line) = Some line
loaded_in _ = None

abbrev pub loaded_by : SeenLine → Option InboundLine
loaded_by l = loaded_in l.part

-- A dry run as a JSON object.

abbrev pub part_members : PartContent → List ℕ
part_members part =
    codes "\"part\":" ++ (decimal part.sequence ++ (codes ",\"flight\":\"" ++ (flight_text part.flight
    ++ (codes "\",\"date\":\"" ++ (date_text part.date ++ (codes "\",\"loaded\":\"" ++ (part.loaded ++ codes "\"")))))))

-- the members of the message, at the start of the object
abbrev pub message_members : Content → List ℕ
message_members (content.Fwb cargo) = codes "\"kind\":\"FWB\""
message_members (content.Ffm part) = codes "\"kind\":\"FFM\"," ++ part_members part
message_members (content.Fsu status) = codes "\"kind\":\"FSU\",\"awb\":\"" ++ (number_text status.awb ++ codes "\"")

-- the pieces of the whole consignment, if given
abbrev pub total_value : Option ℕ → List ℕ
total_value None = codes "null"
total_value (Some total) = decimal total

abbrev pub route_members : ℕ → CargoLine → List ℕ
route_members number cargo =
    codes "\"line\":" ++ (decimal number ++ (codes ",\"awb\":\"" ++ (number_text cargo.awb ++ (codes "\",\"origin\":\""
    ++ (cargo.origin ++ (codes "\",\"destination\":\"" ++ (cargo.destination ++ codes "\"")))))))

abbrev pub cargo_members : ℕ → CargoLine → List ℕ
cargo_members number cargo =
    route_members number cargo ++ (codes ",\"pieces\":" ++ (decimal cargo.pieces ++ (codes ",\"tenths\":"
    ++ (decimal cargo.tenths ++ (codes ",\"total\":" ++ total_value cargo.total)))))

-- the members of a line's text, and whether it is doubtful
abbrev pub text_members : List ℕ → Bool → List ℕ
text_members text doubtful =
    codes "\"text\":" ++ (compact_text (string text) ++ (codes ",\"doubtful\":" ++ compact_text (boolean doubtful)))

abbrev pub text_object : ℕ → List ℕ → Bool → List ℕ
text_object number text doubtful =
    codes "{\"line\":" ++ (decimal number ++ (codes "," ++ (text_members text doubtful ++ codes "}")))

-- the object of a line that is read
abbrev pub read_part : ℕ → List ℕ → Bool → LinePart → Option (List ℕ)
read_part number text doubtful (Declared cargo) = Some (codes "{" ++ (cargo_members number cargo ++ codes "}"))
read_part number text doubtful (Loaded line) =
    Some (codes "{" ++ (cargo_members number line.cargo ++ (codes ",\"unload\":\"" ++ (line.unload ++ codes "\"}"))))
read_part number text doubtful Status = Some (text_object number text doubtful)
read_part number text doubtful _ = None

abbrev pub read_object : SeenLine → Option (List ℕ)
read_object l = read_part l.number l.text l.doubtful l.part

-- the object of a line that is ignored
abbrev pub passed_part : ℕ → List ℕ → Bool → LinePart → Option (List ℕ)
passed_part number text doubtful Passed = Some (text_object number text doubtful)
passed_part number text doubtful _ = None

abbrev pub passed_object : SeenLine → Option (List ℕ)
passed_object l = passed_part l.number l.text l.doubtful l.part

abbrev pub dropped_object : DroppedLine → List ℕ
dropped_object l = codes "{" ++ (text_members l.text l.doubtful ++ codes "}")

abbrev pub list_text : List (List ℕ) → List ℕ
list_text objects = codes "[" ++ (join_by (λ object. object) (codes ",") objects ++ codes "]")

abbrev pub look_object : Look → List ℕ
look_object look =
    codes "{" ++ (message_members look.telegram.content ++ (codes ",\"dropped\":" ++ (list_text (map dropped_object look.dropped.items)
    ++ (codes ",\"read\":" ++ (list_text (filter_map read_object look.lines.items) ++ (codes ",\"passed\":"
    ++ (list_text (filter_map passed_object look.lines.items) ++ (codes ",\"doubtful\":"
    ++ (compact_text (boolean (has_doubt look)) ++ codes "}")))))))))

-- A dry run as lines for people.

-- `FFM LH400/12JAN from FRA, part 1`
abbrev pub heading : Content → List ℕ
heading (content.Fwb cargo) = codes "FWB\n"
heading (content.Ffm part) =
    codes "FFM " ++ (flight_text part.flight ++ (codes "/" ++ (date_text part.date ++ (codes " from "
    ++ (part.loaded ++ (codes ", part " ++ (decimal part.sequence ++ codes "\n")))))))
heading (content.Fsu status) = codes "FSU " ++ (number_text status.awb ++ codes "\n")

-- the pieces of the whole consignment, if given
abbrev pub total_text : Option ℕ → List ℕ
total_text None = []
total_text (Some total) = codes " (of " ++ (decimal total ++ codes ")")

-- `020-12345675 FRAJFK 4 pieces, 40.0 kg (of 10)`
abbrev pub cargo_text : CargoLine → List ℕ
cargo_text cargo =
    number_text cargo.awb ++ (codes " " ++ (cargo.origin ++ (cargo.destination ++ (codes " "
    ++ (amount_text (record { pieces = cargo.pieces; tenths = cargo.tenths }) ++ total_text cargo.total)))))

-- the text that marks a doubtful line
abbrev pub doubt_text : Bool → List ℕ
doubt_text doubtful = if doubtful then codes ", doubtful: " else codes ": "

-- the text of a line that is read, or the line itself if it is ignored or stored; other lines
-- aren't shown
abbrev pub part_text : ℕ → List ℕ → Bool → LinePart → List ℕ
part_text number text doubtful (Declared cargo) = codes "line " ++ (decimal number ++ (codes ": " ++ (cargo_text cargo ++ codes "\n")))
part_text number text doubtful (Loaded line) =
    codes "line " ++ (decimal number ++ (codes ": " ++ (cargo_text line.cargo ++ (codes " to " ++ (line.unload ++ codes "\n")))))
part_text number text doubtful Status = codes "line " ++ (decimal number ++ (doubt_text doubtful ++ (text ++ codes "\n")))
part_text number text doubtful Passed =
    codes "line " ++ (decimal number ++ (codes " is passed over" ++ (doubt_text doubtful ++ (text ++ codes "\n"))))
part_text number text doubtful _ = []

abbrev pub line_text : SeenLine → List ℕ
line_text l = part_text l.number l.text l.doubtful l.part

abbrev pub dropped_text : DroppedLine → List ℕ
dropped_text l = codes "in front" ++ (doubt_text l.doubtful ++ (l.text ++ codes "\n"))

-- the heading, the lines before the message, and its lines
abbrev pub look_text : Look → List ℕ
look_text look =
    heading look.telegram.content ++ (flat_map dropped_text look.dropped.items ++ flat_map line_text look.lines.items)
