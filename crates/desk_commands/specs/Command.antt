-- Commands: their verbs, fields, ranges and texts.
use Rattle.std.specs.Prelude.{ℕ, Bool, List, [], ◌∷◌, codes, map, Option, slice_get, ◌&&◌, ◌==◌, nat_le, length, take, drop, slice_range, decimal, true, false, Some, None, ◌≡◌, ◌<◌, Result, String, string_bytes, IsTrue, IfSome, IfOk}
use Rattle.desk_commands.specs.Common.{find, bytes_eq, list_all, is_digit, decimal_value, ◌>>=◌, where_true, CalendarDay, day_in_year, is_moment_day, result_ok, key_of, number_of, airport_of, Designator, flight_text, is_name, is_goods, is_agent_code, Run, airline_of, FlightDate, most_pieces, most_message_tenths, largest_count, Global, join_with_byte, padded, IsNumber, number_text, prefix_of, serial_of, is_airport, IsPieces, IsTenths, IsMomentDay, IsDesignator, is_carrier, IsRunCount, IsCount, Order, TakeIn, Issue, GiveBack, Void, DeskCommand, Book, Amend, Receive, Withdraw, Manifest, Offload, Reroute, Depart, CheckIn, Strike, Notify, Deliver, Transfer, Missing, Found, Confirm, Verb, Field, Kind, FieldValue, Text, Number, Flight, Absent, Command}
unfoldable pub use Rattle.station_days.specs.Date.{day_line}
use Rattle.desk_commands.specs.declared.verb.Verb.TheVariants as verb
use Rattle.desk_commands.specs.declared.verb.Field.TheVariants as field
use Rattle.desk_commands.specs.declared.verb.Kind.TheVariants as kind
use Rattle.desk_commands.specs.declared.command.Command.TheVariants.{Stock, Cargo}

-- The verbs of commands: the word of each, and its fields with their keys in a body.

abbrev pub word : Verb → List ℕ
word verb.TakeIn = codes "take-in"
word verb.Issue = codes "issue"
word verb.Return = codes "return"
word verb.Void = codes "void"
word verb.Book = codes "book"
word verb.Amend = codes "amend"
word verb.Receive = codes "receive"
word verb.Withdraw = codes "withdraw"
word verb.Manifest = codes "manifest"
word verb.Offload = codes "offload"
word verb.Reroute = codes "reroute"
word verb.Depart = codes "depart"
word verb.CheckIn = codes "check-in"
word verb.Strike = codes "strike"
word verb.Notify = codes "notify"
word verb.Deliver = codes "deliver"
word verb.Transfer = codes "transfer"
word verb.Missing = codes "missing"
word verb.Found = codes "found"
word verb.Confirm = codes "confirm"

abbrev pub row : Verb → List Field
row verb.TakeIn = field.Prefix ∷ field.Serial ∷ field.Count ∷ []
row verb.Issue = field.Prefix ∷ field.Serial ∷ field.Count ∷ field.Agent ∷ []
row verb.Return = field.Prefix ∷ field.Serial ∷ field.Count ∷ field.Agent ∷ []
row verb.Void = field.Prefix ∷ field.Serial ∷ field.Count ∷ []
row verb.Book =
    field.Awb ∷ field.Origin ∷ field.Destination ∷ field.Pieces ∷ field.Tenths ∷ field.Goods ∷ []
row verb.Amend =
    field.Awb ∷ field.Origin ∷ field.Destination ∷ field.Pieces ∷ field.Tenths ∷ field.Goods ∷ []
row verb.Receive = field.Awb ∷ field.Pieces ∷ field.Tenths ∷ field.Name ∷ []
row verb.Withdraw = field.Awb ∷ field.Pieces ∷ field.Name ∷ []
row verb.Manifest = field.Awb ∷ field.Flight ∷ field.Date ∷ field.Unload ∷ field.Pieces ∷ []
row verb.Offload = field.Awb ∷ field.Flight ∷ field.Date ∷ field.Pieces ∷ []
row verb.Reroute = field.Flight ∷ field.Date ∷ field.Unload ∷ []
row verb.Depart = field.Flight ∷ field.Date ∷ []
row verb.CheckIn = field.Awb ∷ field.Flight ∷ field.Date ∷ field.Counted ∷ []
row verb.Strike = field.Awb ∷ field.Flight ∷ field.Date ∷ field.Pieces ∷ []
row verb.Notify = field.Awb ∷ field.Name ∷ []
row verb.Deliver = field.Awb ∷ field.Pieces ∷ field.Name ∷ []
row verb.Transfer = field.Awb ∷ field.Pieces ∷ field.Airline ∷ []
row verb.Missing = field.Awb ∷ field.Pieces ∷ field.FlightIfAny ∷ field.DateIfAny ∷ []
row verb.Found = field.Awb ∷ field.Pieces ∷ field.Tenths ∷ field.FlightIfAny ∷ field.DateIfAny ∷ []
row verb.Confirm = field.Upto ∷ []

-- a field's key in a body
abbrev pub name : Field → List ℕ
name field.Prefix = codes "prefix"
name field.Serial = codes "serial"
name field.Count = codes "count"
name field.Agent = codes "agent"
name field.Awb = codes "awb"
name field.Origin = codes "origin"
name field.Destination = codes "destination"
name field.Pieces = codes "pieces"
name field.Tenths = codes "tenths"
name field.Goods = codes "goods"
name field.Name = codes "name"
name field.Flight = codes "flight"
name field.Date = codes "date"
name field.FlightIfAny = codes "flight"
name field.DateIfAny = codes "date"
name field.Unload = codes "unload"
name field.Counted = codes "counted"
name field.Airline = codes "airline"
name field.Upto = codes "upto"

abbrev pub kind_of : Field → Kind
kind_of field.Count = kind.Number
kind_of field.Pieces = kind.Number
kind_of field.Tenths = kind.Number
kind_of field.Flight = kind.Flight
kind_of field.FlightIfAny = kind.FlightIfAny
kind_of field.DateIfAny = kind.TextIfAny
kind_of field.Counted = kind.Number
kind_of field.Upto = kind.Number
kind_of _ = kind.Text

-- the row as six places, of which the last may be empty
abbrev pub places : Verb → List (Option Field)
places verb = map (slice_get (row verb)) (0 ∷ 1 ∷ 2 ∷ 3 ∷ 4 ∷ 5 ∷ [])

abbrev pub verbs : List Verb
verbs =
    verb.TakeIn ∷ verb.Issue ∷ verb.Return ∷ verb.Void ∷ verb.Book ∷ verb.Amend ∷ verb.Receive
    ∷ verb.Withdraw ∷ verb.Manifest ∷ verb.Offload ∷ verb.Reroute ∷ verb.Depart ∷ verb.CheckIn
    ∷ verb.Strike ∷ verb.Notify ∷ verb.Deliver ∷ verb.Transfer ∷ verb.Missing ∷ verb.Found
    ∷ verb.Confirm ∷ []

abbrev pub is_word : List ℕ → Verb → Bool
is_word text verb = bytes_eq (word verb) text

abbrev pub verb_called : List ℕ → Option Verb
verb_called text = find (is_word text) verbs

-- Days in texts of commands: `2026-01-12`.

-- the digits of the year, the month and the day
abbrev pub year_part : List ℕ → List ℕ
year_part text = take 4 text

abbrev pub month_part : List ℕ → List ℕ
month_part text = slice_range text 5 7

abbrev pub day_part : List ℕ → List ℕ
day_part text = drop 8 text

abbrev pub date_part : List ℕ → CalendarDay
date_part text =
    record { day = decimal_value (day_part text); month = decimal_value (month_part text) }

abbrev pub has_digits : List ℕ → Bool
has_digits text =
    (length text == 10) && list_all is_digit (year_part text)
    && list_all is_digit (month_part text) && list_all is_digit (day_part text)

abbrev pub is_calendar_day : CalendarDay → Bool
is_calendar_day d = nat_le 1 d.day && nat_le d.day 31 && nat_le 1 d.month && nat_le d.month 12

abbrev pub date_in : List ℕ → Option CalendarDay
date_in text = where_true (has_digits text && is_calendar_day (date_part text)) (date_part text)

abbrev pub named_day : CalendarDay → List ℕ → Option ℕ
named_day date text = day_in_year date (decimal_value (year_part text))

abbrev pub if_written : ℕ → List ℕ → Option ℕ
if_written day text = where_true (is_moment_day day && bytes_eq (day_line day) text) day

-- the day of a text that is its written form, if a Moment can have it
unfoldable pub day_of : List ℕ → Option ℕ
day_of text = do
  date ← date_in text
  day ← named_day date text
  if_written day text

-- Values of fields: their written form and their meaning.

-- numbers without leading zeros, flights in their written form, and an empty text for absent values
abbrev pub line_of : FieldValue → List ℕ
line_of (Text text) = text
line_of (Number n) = decimal n
line_of (Flight f) = flight_text f
line_of Absent = []

abbrev pub is_present : FieldValue → Bool
is_present Absent = false
is_present _ = true

-- ---- the meaning of one field

abbrev pub text_in : FieldValue → Option (List ℕ)
text_in (Text text) = Some text
text_in _ = None

abbrev pub number_in : FieldValue → Option ℕ
number_in (Number n) = Some n
number_in _ = None

abbrev pub flight_in : FieldValue → Option Designator
flight_in (Flight f) = Some f
flight_in _ = None

-- exactly `width` digits
abbrev pub digits_of : ℕ → List ℕ → Option ℕ
digits_of width text =
    where_true ((length text == width) && list_all is_digit text) (decimal_value text)

abbrev pub digits_in : ℕ → FieldValue → Option ℕ
digits_in width value = text_in value >>= digits_of width

abbrev pub awb_of : List ℕ → Option ℕ
awb_of text = where_true (length text == 12) text >>= λ bytes. result_ok (number_of bytes)

abbrev pub awb_in : FieldValue → Option ℕ
awb_in value = text_in value >>= awb_of

abbrev pub airport_in : FieldValue → Option (List ℕ)
airport_in value = text_in value >>= airport_of

abbrev pub airline_in : FieldValue → Option (List ℕ)
airline_in value = text_in value >>= airline_of

abbrev pub name_in : FieldValue → Option (List ℕ)
name_in value = text_in value >>= λ text. where_true (is_name text) text

abbrev pub goods_in : FieldValue → Option (List ℕ)
goods_in value = text_in value >>= λ text. where_true (is_goods text) text

abbrev pub agent_in : FieldValue → Option (List ℕ)
agent_in value = text_in value >>= λ text. where_true (is_agent_code text) text

abbrev pub day_in : FieldValue → Option ℕ
day_in value = text_in value >>= day_of

abbrev pub pieces_in : FieldValue → Option ℕ
pieces_in value = number_in value >>= λ n. where_true (nat_le 1 n && nat_le n most_pieces) n

abbrev pub tenths_in : FieldValue → Option ℕ
tenths_in value = number_in value >>= λ n. where_true (nat_le n most_message_tenths) n

abbrev pub counted_in : FieldValue → Option ℕ
counted_in value = number_in value >>= λ n. where_true (nat_le n most_pieces) n

abbrev pub count_in : FieldValue → Option ℕ
count_in value = number_in value >>= λ n. where_true (nat_le n largest_count) n

-- ---- the meaning of several fields

abbrev pub run_in : FieldValue → FieldValue → FieldValue → Option Run
run_in prefix serial count = do
  p ← digits_in 3 prefix
  s ← digits_in 7 serial
  n ← count_in count
  Some (record { first = key_of p s; count = n })

abbrev pub flight_date_in : FieldValue → FieldValue → Option FlightDate
flight_date_in flight day = do
  f ← flight_in flight
  d ← day_in day
  Some (record { flight = f; day = d })

-- both are absent, or both present
abbrev pub flight_if_any_in : FieldValue → FieldValue → Option (Option FlightDate)
flight_if_any_in Absent Absent = Some None
flight_if_any_in flight day = flight_date_in flight day >>= λ f. Some (Some f)

-- ---- the verb and the fields

abbrev pub order_verb : Order → Verb
order_verb (TakeIn run) = verb.TakeIn
order_verb (Issue run agent) = verb.Issue
order_verb (GiveBack run agent) = verb.Return
order_verb (Void run) = verb.Void

abbrev pub desk_verb : DeskCommand → Verb
desk_verb (Book w origin destination pieces tenths goods) = verb.Book
desk_verb (Amend w origin destination pieces tenths goods) = verb.Amend
desk_verb (Receive w pieces tenths name) = verb.Receive
desk_verb (Withdraw w pieces name) = verb.Withdraw
desk_verb (Manifest w flight unload pieces) = verb.Manifest
desk_verb (Offload w flight pieces) = verb.Offload
desk_verb (Reroute flight unload) = verb.Reroute
desk_verb (Depart flight) = verb.Depart
desk_verb (CheckIn w flight counted) = verb.CheckIn
desk_verb (Strike w flight pieces) = verb.Strike
desk_verb (Notify w name) = verb.Notify
desk_verb (Deliver w pieces name) = verb.Deliver
desk_verb (Transfer w pieces airline) = verb.Transfer
desk_verb (Missing w pieces flight) = verb.Missing
desk_verb (Found w pieces tenths flight) = verb.Found
desk_verb (Confirm upto) = verb.Confirm

abbrev pub verb_of : Command → Verb
verb_of (Stock order) = order_verb order
verb_of (Cargo command) = desk_verb command

-- the first number of a run, and the fields of a flight on a day, which may be absent
abbrev pub prefix_text : Run → FieldValue
prefix_text run = Text (padded 3 (prefix_of run.first))

abbrev pub serial_text : Run → FieldValue
serial_text run = Text (padded 7 (serial_of run.first))

abbrev pub number : ℕ → FieldValue
number w = Text (number_text w)

abbrev pub flight : FlightDate → FieldValue
flight f = Flight f.flight

abbrev pub day : FlightDate → FieldValue
day f = Text (day_line f.day)

abbrev pub flight_if_any : Option FlightDate → FieldValue
flight_if_any None = Absent
flight_if_any (Some f) = flight f

abbrev pub day_if_any : Option FlightDate → FieldValue
day_if_any None = Absent
day_if_any (Some f) = day f

-- the values of the fields, in the order of the verb's row
abbrev pub order_values : Order → List FieldValue
order_values (TakeIn run) = prefix_text run ∷ serial_text run ∷ Number run.count ∷ []
order_values (Issue run agent) =
    prefix_text run ∷ serial_text run ∷ Number run.count ∷ Text agent ∷ []
order_values (GiveBack run agent) =
    prefix_text run ∷ serial_text run ∷ Number run.count ∷ Text agent ∷ []
order_values (Void run) = prefix_text run ∷ serial_text run ∷ Number run.count ∷ []

abbrev pub desk_values : DeskCommand → List FieldValue
desk_values (Book w origin destination pieces tenths goods) =
    number w ∷ Text origin ∷ Text destination ∷ Number pieces ∷ Number tenths ∷ Text goods ∷ []
desk_values (Amend w origin destination pieces tenths goods) =
    number w ∷ Text origin ∷ Text destination ∷ Number pieces ∷ Number tenths ∷ Text goods ∷ []
desk_values (Receive w pieces tenths name) =
    number w ∷ Number pieces ∷ Number tenths ∷ Text name ∷ []
desk_values (Withdraw w pieces name) = number w ∷ Number pieces ∷ Text name ∷ []
desk_values (Manifest w f unload pieces) =
    number w ∷ flight f ∷ day f ∷ Text unload ∷ Number pieces ∷ []
desk_values (Offload w f pieces) = number w ∷ flight f ∷ day f ∷ Number pieces ∷ []
desk_values (Reroute f unload) = flight f ∷ day f ∷ Text unload ∷ []
desk_values (Depart f) = flight f ∷ day f ∷ []
desk_values (CheckIn w f counted) = number w ∷ flight f ∷ day f ∷ Number counted ∷ []
desk_values (Strike w f pieces) = number w ∷ flight f ∷ day f ∷ Number pieces ∷ []
desk_values (Notify w name) = number w ∷ Text name ∷ []
desk_values (Deliver w pieces name) = number w ∷ Number pieces ∷ Text name ∷ []
desk_values (Transfer w pieces airline) = number w ∷ Number pieces ∷ Text airline ∷ []
desk_values (Missing w pieces f) = number w ∷ Number pieces ∷ flight_if_any f ∷ day_if_any f ∷ []
desk_values (Found w pieces tenths f) =
    number w ∷ Number pieces ∷ Number tenths ∷ flight_if_any f ∷ day_if_any f ∷ []
desk_values (Confirm upto) = Number upto ∷ []

abbrev pub values_of : Command → List FieldValue
values_of (Stock order) = order_values order
values_of (Cargo command) = desk_values command

-- ---- ranges of the fields

-- a run's first number, and a count that an order may have
abbrev pub IsRun : Run → Type 0
IsRun run = IsNumber run.first × IsRunCount run.count

abbrev pub IsOrder : Order → Type 0
IsOrder (TakeIn run) = IsRun run
IsOrder (Issue run agent) = IsRun run × IsTrue (is_agent_code agent)
IsOrder (GiveBack run agent) = IsRun run × IsTrue (is_agent_code agent)
IsOrder (Void run) = IsRun run

abbrev pub IsFlightDate : FlightDate → Type 0
IsFlightDate f = IsDesignator f.flight × IsMomentDay f.day

abbrev pub IsAirport : List ℕ → Type 0
IsAirport code = IsTrue (is_airport code)

abbrev pub IsDeskCommand : DeskCommand → Type 0
IsDeskCommand (Book w origin destination pieces tenths goods) =
    IsNumber w × IsAirport origin × IsAirport destination × IsPieces pieces × IsTenths tenths
    × IsTrue (is_goods goods)
IsDeskCommand (Amend w origin destination pieces tenths goods) =
    IsNumber w × IsAirport origin × IsAirport destination × IsPieces pieces × IsTenths tenths
    × IsTrue (is_goods goods)
IsDeskCommand (Receive w pieces tenths name) =
    IsNumber w × IsPieces pieces × IsTenths tenths × IsTrue (is_name name)
IsDeskCommand (Withdraw w pieces name) = IsNumber w × IsPieces pieces × IsTrue (is_name name)
IsDeskCommand (Manifest w flight unload pieces) =
    IsNumber w × IsFlightDate flight × IsAirport unload × IsPieces pieces
IsDeskCommand (Offload w flight pieces) = IsNumber w × IsFlightDate flight × IsPieces pieces
IsDeskCommand (Reroute flight unload) = IsFlightDate flight × IsAirport unload
IsDeskCommand (Depart flight) = IsFlightDate flight
IsDeskCommand (CheckIn w flight counted) = IsNumber w × IsFlightDate flight × IsCount counted
IsDeskCommand (Strike w flight pieces) = IsNumber w × IsFlightDate flight × IsPieces pieces
IsDeskCommand (Notify w name) = IsNumber w × IsTrue (is_name name)
IsDeskCommand (Deliver w pieces name) = IsNumber w × IsPieces pieces × IsTrue (is_name name)
IsDeskCommand (Transfer w pieces airline) =
    IsNumber w × IsPieces pieces × IsTrue (is_carrier airline)
IsDeskCommand (Missing w pieces flight) = IsNumber w × IsPieces pieces × IfSome flight IsFlightDate
IsDeskCommand (Found w pieces tenths flight) =
    IsNumber w × IsPieces pieces × IsTenths tenths × IfSome flight IsFlightDate
IsDeskCommand (Confirm upto) = upto < 4_294_967_296

abbrev pub IsCommand : Command → Type 0
IsCommand (Stock order) = IsOrder order
IsCommand (Cargo command) = IsDeskCommand command

-- ---- texts

-- a function that writes this text, unless memory runs out
abbrev pub Writes : {E : Type 0} → Result (String Global) E → List ℕ → Type 0
Writes result text = IfOk result (λ made. string_bytes made ≡ text)

abbrev pub fields_text : List FieldValue → List ℕ
fields_text values = join_with_byte 10 (map line_of values)

abbrev pub text_of : Verb → List FieldValue → List ℕ
text_of verb values = join_with_byte 10 (word verb ∷ map line_of values)

abbrev pub command_text : Command → List ℕ
command_text command = text_of (verb_of command) (values_of command)

-- ---- commands from fields

-- the command of a verb, from the values of its fields in order
abbrev pub command_in : Verb → FieldValue → FieldValue → FieldValue → FieldValue → FieldValue
    → FieldValue → Option Command
command_in verb.TakeIn prefix serial count _ _ _ = do
  run ← run_in prefix serial count
  Some (Stock (TakeIn run))
command_in verb.Issue prefix serial count agent _ _ = do
  run ← run_in prefix serial count
  code ← agent_in agent
  Some (Stock (Issue run code))
command_in verb.Return prefix serial count agent _ _ = do
  run ← run_in prefix serial count
  code ← agent_in agent
  Some (Stock (GiveBack run code))
command_in verb.Void prefix serial count _ _ _ = do
  run ← run_in prefix serial count
  Some (Stock (Void run))
command_in verb.Book awb origin destination pieces tenths goods = do
  w ← awb_in awb
  o ← airport_in origin
  d ← airport_in destination
  p ← pieces_in pieces
  t ← tenths_in tenths
  g ← goods_in goods
  Some (Cargo (Book w o d p t g))
command_in verb.Amend awb origin destination pieces tenths goods = do
  w ← awb_in awb
  o ← airport_in origin
  d ← airport_in destination
  p ← pieces_in pieces
  t ← tenths_in tenths
  g ← goods_in goods
  Some (Cargo (Amend w o d p t g))
command_in verb.Receive awb pieces tenths name _ _ = do
  w ← awb_in awb
  p ← pieces_in pieces
  t ← tenths_in tenths
  n ← name_in name
  Some (Cargo (Receive w p t n))
command_in verb.Withdraw awb pieces name _ _ _ = do
  w ← awb_in awb
  p ← pieces_in pieces
  n ← name_in name
  Some (Cargo (Withdraw w p n))
command_in verb.Manifest awb flight day unload pieces _ = do
  w ← awb_in awb
  f ← flight_date_in flight day
  u ← airport_in unload
  p ← pieces_in pieces
  Some (Cargo (Manifest w f u p))
command_in verb.Offload awb flight day pieces _ _ = do
  w ← awb_in awb
  f ← flight_date_in flight day
  p ← pieces_in pieces
  Some (Cargo (Offload w f p))
command_in verb.Reroute flight day unload _ _ _ = do
  f ← flight_date_in flight day
  u ← airport_in unload
  Some (Cargo (Reroute f u))
command_in verb.Depart flight day _ _ _ _ = do
  f ← flight_date_in flight day
  Some (Cargo (Depart f))
command_in verb.CheckIn awb flight day counted _ _ = do
  w ← awb_in awb
  f ← flight_date_in flight day
  n ← counted_in counted
  Some (Cargo (CheckIn w f n))
command_in verb.Strike awb flight day pieces _ _ = do
  w ← awb_in awb
  f ← flight_date_in flight day
  p ← pieces_in pieces
  Some (Cargo (Strike w f p))
command_in verb.Notify awb name _ _ _ _ = do
  w ← awb_in awb
  n ← name_in name
  Some (Cargo (Notify w n))
command_in verb.Deliver awb pieces name _ _ _ = do
  w ← awb_in awb
  p ← pieces_in pieces
  n ← name_in name
  Some (Cargo (Deliver w p n))
command_in verb.Transfer awb pieces airline _ _ _ = do
  w ← awb_in awb
  p ← pieces_in pieces
  a ← airline_in airline
  Some (Cargo (Transfer w p a))
command_in verb.Missing awb pieces flight day _ _ = do
  w ← awb_in awb
  p ← pieces_in pieces
  f ← flight_if_any_in flight day
  Some (Cargo (Missing w p f))
command_in verb.Found awb pieces tenths flight day _ = do
  w ← awb_in awb
  p ← pieces_in pieces
  t ← tenths_in tenths
  f ← flight_if_any_in flight day
  Some (Cargo (Found w p t f))
command_in verb.Confirm upto _ _ _ _ _ = do
  n ← number_in upto
  Some (Cargo (Confirm n))

abbrev pub command_of : Verb → List FieldValue → Option Command
command_of verb (a ∷ b ∷ c ∷ d ∷ e ∷ f ∷ []) = command_in verb a b c d e f
command_of verb _ = None
