-- Lines of messages: names, quantities, consignments, the normal text and its faults.
use Rattle.std.specs.Prelude.{ℕ, List, [], codes, ◌-◌, Bool, ◌&&◌, not, nat_le, length, take, slice_index, ◌≡◌, ◌≢◌, is_some, IsTrue, ◌+◌, ◌/◌, ◌%◌, ◌||◌, ◌==◌, if◌then◌else◌, ◌∷◌, ◌++◌, take_while, Option, Some, None, decimal, min, drop, slice_range, Result, Ok, Err, nat_eq, nat_lt, map, position, ◌≤◌}
use Rattle.imp_fields.specs.Common.{list_all, is_digit, is_letter_or_digit, ◌>>=◌, where_true, before_first, after_first, is_letter, has_number_shape, number_of, number_text, AwbFault, starts_with, slice_split, join_with_byte, strip_carriage_return, or_else, AllByRecursion, WeightUnit, Kilograms, Pounds, Token}
use Rattle.imp_fields.specs.Fields.{is_printable, is_blank, before_last_while, NoneInFront, is_point, drop_while, last_while, is_slash, count_of, is_digit_or_point, is_weight_numeral, tenths_of, IsSlice, AreSlices, most_bytes, most_lines}
use Rattle.imp_fields.specs.declared.fault.Why.{Why}
use Rattle.imp_fields.specs.declared.fault.Why.TheVariants as why
use Rattle.imp_fields.specs.declared.amount.ShipmentCode.{ShipmentCode}
use Rattle.imp_fields.specs.declared.amount.ShipmentCode.TheVariants.{Total, Part, Split, Divided, Multi}
use Rattle.imp_fields.specs.declared.amount.Quantity.{Quantity}
use Rattle.imp_fields.specs.declared.line.Consignment.{Consignment}
use Rattle.imp_fields.specs.declared.fault.TextFault.{TextFault}
use Rattle.imp_fields.specs.declared.line.Lines.{Lines}
use Rattle.imp_fields.specs.declared.line.MessageKind.{MessageKind}
use Rattle.imp_fields.specs.declared.line.MessageKind.TheVariants as kinds
use Rattle.imp_fields.specs.declared.normal.Scan.{Scan}

-- Words of faults.

-- the word of a fault; running out of memory isn't a fault of a text and has none
abbrev pub why_word : Why → List ℕ
why_word why.Size = codes "size"
why_word why.Lines = codes "lines"
why_word why.Byte = codes "byte"
why_word why.Long = codes "long"
why_word why.Kind = codes "kind"
why_word why.Ending = codes "ending"
why_word why.Head = codes "head"
why_word why.Consignment = codes "consignment"
why_word why.Number = codes "number"
why_word why.Quantity = codes "quantity"
why_word why.Weight = codes "weight"
why_word why.Date = codes "date"
why_word why.Flight = codes "flight"
why_word why.Order = codes "order"
why_word why.Memory = []

-- Names and goods texts.

abbrev pub ends_in_blank : List ℕ → Bool
ends_in_blank text = is_blank (slice_index text (length text - 1))

-- printable text of at most `most` bytes that doesn't end in a space
abbrev pub is_short_text : ℕ → List ℕ → Bool
is_short_text most text = nat_le (length text) most && list_all is_printable text && not (ends_in_blank text)

abbrev pub is_name : List ℕ → Bool
is_name text = is_short_text 35 text

abbrev pub is_goods : List ℕ → Bool
is_goods text = is_short_text 15 text

-- text without trailing spaces
abbrev pub trimmed : List ℕ → List ℕ
trimmed text = before_last_while is_blank text

-- the goods text stored for a text: its first 15 bytes, without trailing spaces
abbrev pub kept_goods : List ℕ → List ℕ
kept_goods text = trimmed (take 15 text)

-- The quantity of a message: `T10K100MC0.5`.

-- T total, P part, S split, D divided, M multi
abbrev pub code_letter : ShipmentCode → ℕ
code_letter Total = 84
code_letter Part = 80
code_letter Split = 83
code_letter Divided = 68
code_letter Multi = 77

abbrev pub code_of : ℕ → Option ShipmentCode
code_of b =
    if b == 84 then Some Total else if b == 80 then Some Part else if b == 83 then Some Split
    else if b == 68 then Some Divided else if b == 77 then Some Multi else None

-- K kilograms, L pounds
abbrev pub unit_of : ℕ → Option WeightUnit
unit_of b = if b == 75 then Some Kilograms else if b == 76 then Some Pounds else None

-- The weight at the start of the text after the pieces, and the rest. There is one exactly if a K
-- or an L comes first; its numeral is the longest run of digits and points after it.
abbrev pub weight_in : Option WeightUnit → List ℕ → Option (Option ℕ)
weight_in None text = Some None
weight_in (Some unit) text =
    where_true (is_weight_numeral (take_while is_digit_or_point text)) (Some (tenths_of unit (take_while is_digit_or_point text)))

abbrev pub weight_at_front : List ℕ → Option (Option ℕ)
weight_at_front [] = Some None
weight_at_front (b ∷ text) = weight_in (unit_of b) text

-- the weight of a whole text such as `K0.25` or `L100`
abbrev pub weight_of : List ℕ → Option ℕ
weight_of [] = None
weight_of (b ∷ numeral) = unit_of b >>= λ unit. where_true (is_weight_numeral numeral) (tenths_of unit numeral)

abbrev pub left_in : Option WeightUnit → ℕ → List ℕ → List ℕ
left_in None b text = b ∷ text
left_in (Some unit) b text = drop_while is_digit_or_point text

abbrev pub left_of_weight : List ℕ → List ℕ
left_of_weight [] = []
left_of_weight (b ∷ text) = left_in (unit_of b) b text

-- the total: a T and a count at the end, whose digits are the longest run
abbrev pub ends_in_t : List ℕ → Bool
ends_in_t text = slice_index text (length text - 1) == 84

abbrev pub total_at_end : List ℕ → Option ℕ
total_at_end left = if ends_in_t (before_last_while is_digit left) then count_of (last_while is_digit left) else None

-- characters that a quantity may have unread
abbrev pub is_unread : ℕ → Bool
is_unread b = is_letter_or_digit b || is_point b

-- the quantity of a text, read from the left
abbrev pub quantity_after : ShipmentCode → List ℕ → Option Quantity
quantity_after code text = do
  pieces ← count_of (take_while is_digit text)
  weight ← weight_at_front (drop_while is_digit text)
  let left = left_of_weight (drop_while is_digit text) in
      where_true (list_all is_unread left) (record { code = code; pieces = pieces; weight = weight; total = total_at_end left })

abbrev pub quantity_of : List ℕ → Option Quantity
quantity_of [] = None
quantity_of (letter ∷ text) = code_of letter >>= λ code. quantity_after code text

-- whole kilograms, a point, one digit
abbrev pub weight_text : ℕ → List ℕ
weight_text tenths = decimal (tenths / 10) ++ (46 ∷ []) ++ (48 + tenths % 10) ∷ []

abbrev pub total_text : Option ℕ → List ℕ
total_text None = []
total_text (Some total) = 84 ∷ decimal total

-- the written quantity: code, pieces, kilograms and an optional total
abbrev pub quantity_text : ShipmentCode → ℕ → ℕ → Option ℕ → List ℕ
quantity_text code pieces tenths total =
    (code_letter code ∷ decimal pieces) ++ (75 ∷ weight_text tenths) ++ total_text total

-- T if the pieces are all that were declared, otherwise P
abbrev pub written_code : ℕ → ℕ → ShipmentCode
written_code pieces declared = if pieces == declared then Total else Part

-- ---- the same as a relation between a text and a quantity

abbrev pub is_unit : ℕ → Bool
is_unit b = is_some (unit_of b)

abbrev pub AreTenths : Option WeightUnit → List ℕ → ℕ → Type 0
AreTenths None numeral tenths = ⊥
AreTenths (Some unit) numeral tenths = tenths ≡ tenths_of unit numeral

-- there is a weight exactly if a K or an L follows, and no digit or point follows its numeral
abbrev pub IsWeight : List ℕ → List ℕ → Option ℕ → Type 0
IsWeight [] left None = NoneInFront is_unit left
IsWeight [] left (Some tenths) = ⊥
IsWeight (b ∷ numeral) left None = ⊥
IsWeight (b ∷ numeral) left (Some tenths) =
    AreTenths (unit_of b) numeral tenths × IsTrue (is_weight_numeral numeral) × NoneInFront is_digit_or_point left

-- there is a total exactly if the rest ends in a T and a count
abbrev pub IsTotal : List ℕ → Option ℕ → Type 0
IsTotal left (Some total) = (unread digits : List ℕ) × (left ≡ unread ++ (84 ∷ digits)) × (count_of digits ≡ Some total)
IsTotal left None = (unread digits : List ℕ) (total : ℕ) → left ≡ unread ++ (84 ∷ digits) → count_of digits ≢ Some total

pub record IsQuantity (text : List ℕ) (q : Quantity) : Type 0 where
  pub digits : List ℕ
  pub weight : List ℕ
  pub left : List ℕ
  pub parts : text ≡ code_letter q.code ∷ (digits ++ (weight ++ left))
  pub pieces : count_of digits ≡ Some q.pieces
  pub pieces_end : NoneInFront is_digit (weight ++ left)
  pub weight_is : IsWeight weight left q.weight
  pub unread : IsTrue (list_all is_unread left)
  pub total_is : IsTotal left q.total

-- The consignment line of a message: `020-12345675FRAJFK/T10K100MC0.5/CARGO`.

-- the values of a consignment line, with the goods unchanged
pub record Shipment : Type 0 where
  pub awb : ℕ
  pub origin : List ℕ
  pub destination : List ℕ
  pub quantity : Quantity
  pub goods : List ℕ

-- three digits, a hyphen, eight digits, six letters, a slash
abbrev pub has_consignment_shape : List ℕ → Bool
has_consignment_shape line =
    has_number_shape (take 12 line) && (length (slice_range line 12 18) == 6)
    && list_all is_letter (slice_range line 12 18) && (slice_index line 18 == 47)

-- the quantity after the first slash, and the goods after the second
abbrev pub quantity_part : List ℕ → List ℕ
quantity_part line = before_first is_slash (drop 19 line)

abbrev pub goods_part : List ℕ → List ℕ
goods_part line = after_first is_slash (drop 19 line)

-- the values of the line, or the first test that it fails: its form, the check digit, the quantity
abbrev pub consignment_by : List ℕ → Result ℕ AwbFault → Option Quantity → Result Shipment Why
consignment_by line (Err fault) quantity = Err why.Number
consignment_by line (Ok awb) None = Err why.Quantity
consignment_by line (Ok awb) (Some quantity) = Ok (record {
  awb = awb;
  origin = slice_range line 12 15;
  destination = slice_range line 15 18;
  quantity = quantity;
  goods = goods_part line;
})

abbrev pub consignment_of : List ℕ → Result Shipment Why
consignment_of line =
    if has_consignment_shape line then consignment_by line (number_of (take 12 line)) (quantity_of (quantity_part line))
    else Err why.Consignment

-- the values of a consignment line
abbrev pub shipment_of : Consignment → Shipment
shipment_of c = record {
  awb = c.awb;
  origin = c.origin;
  destination = c.destination;
  quantity = c.quantity;
  goods = c.goods.text.now;
}

-- the result of a reader, without positions
abbrev pub plain : Result Consignment Why → Result Shipment Why
plain (Ok c) = Ok (shipment_of c)
plain (Err why) = Err why

-- the fields are in the line one after another
pub record HasSpans (line : List ℕ) (c : Consignment) : Type 0 where
  pub number : IsSlice line c.number_text × (c.number_text.start ≡ 0) × (c.number_text.end ≡ 12)
  pub origin : IsSlice line c.origin_text × (c.origin_text.start ≡ 12) × (c.origin_text.end ≡ 15)
  pub destination : IsSlice line c.destination_text × (c.destination_text.start ≡ 15) × (c.destination_text.end ≡ 18)
  pub quantity : IsSlice line c.quantity_text × (c.quantity_text.start ≡ 19) × (c.quantity_text.end ≡ 19 + length (quantity_part line))
  pub goods : IsSlice line c.goods × (c.goods.start ≡ min (c.quantity_text.end + 1) (length line)) × (c.goods.end ≡ length line)

-- a line to write: a waybill with its pieces and weight, the declared pieces, and the goods
pub record WrittenLine : Type 0 where
  pub awb : ℕ
  pub origin : List ℕ
  pub destination : List ℕ
  pub code : ShipmentCode
  pub pieces : ℕ
  pub tenths : ℕ
  pub total : Option ℕ
  pub goods : List ℕ

-- empty goods are left out, with their slash
abbrev pub goods_text : List ℕ → List ℕ
goods_text [] = []
goods_text (b ∷ goods) = 47 ∷ b ∷ goods

abbrev pub consignment_text : WrittenLine → List ℕ
consignment_text c =
    number_text c.awb ++ c.origin ++ c.destination ++ (47 ∷ []) ++ quantity_text c.code c.pieces c.tenths c.total ++ goods_text c.goods

abbrev pub shipment_written : WrittenLine → Shipment
shipment_written c = record {
  awb = c.awb;
  origin = c.origin;
  destination = c.destination;
  quantity = record { code = c.code; pieces = c.pieces; weight = Some c.tenths; total = c.total };
  goods = c.goods;
}

-- The normal text of a telegram: its lines from the message line on.

abbrev pub fault_at : ℕ → Why → TextFault
fault_at line why = record { line = line; why = why }

-- the first of the lines' faults; the lines count from n
abbrev pub first_fault : ℕ → List (Option Why) → Option TextFault
first_fault n [] = None
first_fault n (None ∷ faults) = first_fault (n + 1) faults
first_fault n (Some why ∷ faults) = Some (fault_at n why)

abbrev pub is_newline : ℕ → Bool
is_newline b = b == 10

abbrev pub is_empty : List ℕ → Bool
is_empty line = length line == 0

-- a line without one trailing CR, and then without trailing spaces
abbrev pub line_without_end : List ℕ → List ℕ
line_without_end line = trimmed (strip_carriage_return line)

-- the lines of a text, cut at newlines, without empty ones at the end
abbrev pub lines_of : List ℕ → List (List ℕ)
lines_of bytes = before_last_while is_empty (map line_without_end (slice_split is_newline bytes))

-- the start of each line, if the first one starts at `place`
abbrev pub starts_from : ℕ → List (List ℕ) → List ℕ
starts_from place [] = []
starts_from place (line ∷ lines) = place ∷ starts_from (place + length line + 1) lines

abbrev pub line_starts : List ℕ → List ℕ
line_starts bytes = take (length (lines_of bytes)) (starts_from 0 (slice_split is_newline bytes))

-- the tokens start where the last lines of a text start
abbrev pub BeginLines : List ℕ → List Token → Type 0
BeginLines bytes tokens = map (λ t. t.start) tokens ≡ drop (length (line_starts bytes) - length tokens) (line_starts bytes)

-- the first fault of a line: a byte that isn't printable, or more than 255 bytes
abbrev pub line_fault : List ℕ → Option Why
line_fault line =
    if not (list_all is_printable line) then Some why.Byte
    else (if nat_lt 255 (length line) then Some why.Long else None)

abbrev pub kind_of : List ℕ → Option MessageKind
kind_of line =
    if starts_with nat_eq line (codes "FWB/") then Some kinds.Fwb
    else (if starts_with nat_eq line (codes "FFM/") then Some kinds.Ffm
    else (if starts_with nat_eq line (codes "FSU/") then Some kinds.Fsu else None))

abbrev pub is_message_line : List ℕ → Bool
is_message_line line = is_some (kind_of line)

-- the lines from the message line on: the first of the first eleven lines that begins a message
abbrev pub from_line : List (List ℕ) → Option ℕ → Result (List (List ℕ)) TextFault
from_line lines None = Err (fault_at 0 why.Kind)
from_line lines (Some k) = Ok (drop k lines)

abbrev pub from_message_line : List (List ℕ) → Result (List (List ℕ)) TextFault
from_message_line lines = from_line lines (position is_message_line (take 11 lines))

-- if no line has a fault
abbrev pub unless_fault : {A : Type 0} → Option TextFault → Result A TextFault → Result A TextFault
unless_fault (Some fault) reading = Err fault
unless_fault None reading = reading

-- the normal lines of a telegram, or its first fault, tested in the order size, number of lines,
-- each line, kind
abbrev pub normal_lines : List ℕ → Result (List (List ℕ)) TextFault
normal_lines bytes =
    if nat_lt most_bytes (length bytes) then Err (fault_at 0 why.Size)
    else (if nat_lt most_lines (length (lines_of bytes)) then Err (fault_at 0 why.Lines)
    else unless_fault (first_fault 1 (map line_fault (lines_of bytes))) (from_message_line (lines_of bytes)))

abbrev pub normal_text : List (List ℕ) → List ℕ
normal_text lines = join_with_byte 10 lines

-- the texts of a reader's lines
abbrev pub line_texts : Lines → List (List ℕ)
line_texts l = map (λ t. t.text.now) l.lines.items

-- the reported fault is that of the lines, or memory ran out
abbrev pub IsFaultBy : Why → ℕ → Option TextFault → Type 0
IsFaultBy why.Memory line fault = line ≡ 0
IsFaultBy other line fault = fault ≡ Some (fault_at line other)

abbrev pub IsFaultOf : Option TextFault → TextFault → Type 0
IsFaultOf fault told = IsFaultBy told.why told.line fault

abbrev pub fault_of : {A : Type 0} → Result A TextFault → Option TextFault
fault_of (Ok x) = None
fault_of (Err fault) = Some fault

-- the reader's result, converted by `view`, is the expected one, or memory ran out
abbrev pub Gives : {X Y : Type 0} → (X → Y) → Result X TextFault → Result Y TextFault → Type 0
Gives view (Ok x) reading = reading ≡ Ok (view x)
Gives view (Err told) reading = IsFaultOf (fault_of reading) told

-- the kind of message that the first line begins
abbrev pub first_kind : List (List ℕ) → Option MessageKind
first_kind [] = None
first_kind (line ∷ lines) = kind_of line

-- The common part of the three kinds of messages: the head, and the first fault of the lines.

-- the three letters, a slash, and one to three digits
abbrev pub is_head : List ℕ → List ℕ → Bool
is_head letters line =
    starts_with nat_eq line letters && (slice_index line 3 == 47)
    && nat_le 1 (length (drop 4 line)) && nat_le (length (drop 4 line)) 3 && list_all is_digit (drop 4 line)

-- the fault of a test that fails
abbrev pub unless_true : Bool → Why → Option Why
unless_true test why = if test then None else Some why

abbrev pub err_of : {A : Type 0} → Result A Why → Option Why
err_of (Ok x) = None
err_of (Err why) = Some why

-- the first fault of a message's lines or, without one, that a line is missing
abbrev pub fault_in : List (List ℕ) → List (Option Why) → Bool → Option TextFault
fault_in lines faults is_complete =
    or_else (first_fault 1 faults) (if is_complete then None else Some (fault_at (length lines) why.Ending))

-- the bytes of sent lines: each ends with CR LF
abbrev pub sent_text : List (List ℕ) → List ℕ
sent_text [] = []
sent_text (line ∷ lines) = line ++ (13 ∷ 10 ∷ []) ++ sent_text lines

-- The state of a scan over the lines of a telegram.

-- The stored lines: those from the message line on, of the first thousand. `before` lines precede
-- it.
abbrev pub AreKept : List ℕ → List (List ℕ) → Option MessageKind → ℕ → List Token → Type 0
AreKept starts lines None before tokens = (position is_message_line (take 11 lines) ≡ None) × (tokens ≡ [])
AreKept starts lines (Some kind) before tokens =
    (position is_message_line (take 11 lines) ≡ Some before) × (map kind_of (take 1 (drop before lines)) ≡ Some kind ∷ [])
    × (map (λ t. t.text.now) tokens ≡ drop before (take most_lines lines)) × (map (λ t. t.start) tokens ≡ drop before (take most_lines starts))

-- the state after lines with these starts
pub record IsScanned (starts : List ℕ) (lines : List (List ℕ)) (s : Scan) : Type 0 where
  pub begun : length starts ≡ length lines
  pub count : s.count ≡ length lines
  pub filled : s.filled ≡ length (before_last_while is_empty lines)
  pub fault : s.fault ≡ first_fault 1 (map line_fault lines)
  pub kept : AreKept starts lines s.kind s.before s.lines.items

-- the effect of another line
pub record Sees (line : Token) (old new : Scan) : Type 0 where
  pub count : new.count ≡ old.count + 1
  pub filled : new.filled ≡ (if is_empty line.text.now then old.filled else old.count + 1)
  pub fault : new.fault ≡ or_else old.fault (first_fault (old.count + 1) (line_fault line.text.now ∷ []))
  pub kind : new.kind ≡ or_else old.kind (if nat_lt old.count 11 then kind_of line.text.now else None)
  pub before : new.before ≡ (if is_some old.kind then old.before else old.count)
  pub lines : new.lines.items ≡ (if is_some new.kind && nat_lt old.count most_lines then old.lines.items ++ line ∷ [] else old.lines.items)

-- the tokens are slices of the source, in order, and end before a position
pub record AreSlicesBefore (source : List ℕ) (place : ℕ) (tokens : List Token) : Type 0 where
  pub slices : AreSlices source tokens
  pub ends : AllByRecursion (λ t. t.end ≤ place) tokens

-- the lines of a source from a position that follows a newline, or from after the end
abbrev pub pieces_from : List ℕ → ℕ → List (List ℕ)
pieces_from source place = if nat_le place (length source) then slice_split is_newline (drop place source) else []

-- the lines of a source that begin before a position were scanned, and no others
pub record IsScannedTo (source : List ℕ) (place : ℕ) (s : Scan) : Type 0 where
  pub starts : List ℕ
  pub lines : List (List ℕ)
  pub scanned : IsScanned starts lines s
  pub slices : AreSlicesBefore source place s.lines.items
  pub count : s.count ≤ place
  pub starts_are : starts_from 0 (slice_split is_newline source) ≡ starts ++ starts_from place (pieces_from source place)
  pub lines_are : map line_without_end (slice_split is_newline source) ≡ lines ++ map line_without_end (pieces_from source place)
