-- Commands as texts and in JSON bodies.
use Rattle.std.specs.Prelude.{◌≡◌, ℕ, suc, ◌==◌, nat_lt, List, [], ◌∷◌, Option, Some, None, option_map, option_and_then, count_by, ⊤, zero, Bool, ◌&&◌, ◌||◌, not, nat_le, length, slice_index}
use Rattle.desk_commands.specs.Common.{Data, Members, number, unsigned, string, member, no_members, as_object, as_str, as_number, as_u64, get, ◌>>=◌, where_true, flight_of, slice_split, list_all, bytes_eq, is_digit, decimal_value, flight_text, Designator, Command, Verb, Field, Kind, FieldValue, Text, Number, Flight, Absent}
use Rattle.desk_commands.specs.Command.{verb_of, values_of, command_of, IsCommand, row, places, name, kind_of, verb_called, is_present}
use Rattle.desk_commands.specs.declared.verb.Kind.TheVariants as kind

-- Commands in JSON bodies.

abbrev pub members_len : Members → ℕ
members_len no_members = 0
members_len (member k d ms) = suc (members_len ms)

abbrev pub member_count : Data → Option ℕ
member_count d = option_map members_len (as_object d)

-- a text, a whole number that isn't negative, a flight as it may be read, or no such key
abbrev pub IsMember : Data → List ℕ → FieldValue → Type 0
IsMember d key (Text text) = get key d ≡ Some (string text)
IsMember d key (Number n) = get key d ≡ Some (number (unsigned n))
IsMember d key (Flight f) =
    (text : List ℕ) × (get key d ≡ Some (string text)) × (flight_of text ≡ Some f)
IsMember d key Absent = get key d ≡ None

abbrev pub AreMembers : Data → List Field → List FieldValue → Type 0
AreMembers d [] [] = ⊤
AreMembers d (field ∷ fields) (value ∷ values) =
    IsMember d (name field) value × AreMembers d fields values
AreMembers _ _ _ = ⊥

-- the body is an object with exactly the keys of the verb's fields, with the command's values
pub record IsBodyOf (verb : Verb) (d : Data) (command : Command) : Type 0 where
  pub in_range : IsCommand command
  pub verb_is : verb_of command ≡ verb
  pub members : AreMembers d (row verb) (values_of command)
  pub no_other : member_count d ≡ Some (count_by is_present (values_of command))

-- ---- the same, read one field after another

abbrev pub text_member : Data → Option FieldValue
text_member d = as_str d >>= λ text. Some (Text text)

abbrev pub number_member : Data → Option FieldValue
number_member d = do
  n ← option_and_then as_u64 (as_number d)
  where_true (nat_lt n 4_294_967_296) (Number n)

abbrev pub flight_member : Data → Option FieldValue
flight_member d = do
  text ← as_str d
  f ← flight_of text
  Some (Flight f)

abbrev pub member_says : Kind → Data → Option FieldValue
member_says kind.Text d = text_member d
member_says kind.Number d = number_member d
member_says kind.Flight d = flight_member d
member_says kind.FlightIfAny d = flight_member d
member_says kind.TextIfAny d = text_member d

abbrev pub member_if_any : Kind → Option Data → Option FieldValue
member_if_any kind None = Some Absent
member_if_any kind (Some d) = member_says kind d

abbrev pub field_says : Option Field → Data → Option FieldValue
field_says None d = Some Absent
field_says (Some field) d = member_if_any (kind_of field) (get (name field) d)

abbrev pub fields_say : List (Option Field) → Data → Option (List FieldValue)
fields_say [] d = Some []
fields_say (field ∷ fields) d = do
  value ← field_says field d
  more ← fields_say fields d
  Some (value ∷ more)

-- the command of a body that has as many members as fields
abbrev pub body_says : Verb → Data → Option Command
body_says verb d = do
  count ← member_count d
  values ← fields_say (places verb) d
  value ← where_true (count == count_by is_present values) values
  command_of verb value

-- The lines of a command's text.

abbrev pub is_end : ℕ → Bool
is_end b = b == 10

abbrev pub lines_of : List ℕ → List (List ℕ)
lines_of text = slice_split is_end text

abbrev pub lines_left : Option (List ℕ) → List (List ℕ)
lines_left None = []
lines_left (Some text) = lines_of text

-- one to ten digits without leading zeros, of a value below 2 ^ 32
abbrev pub is_number : List ℕ → Bool
is_number text =
    nat_le 1 (length text) && nat_le (length text) 10 && list_all is_digit text
    && ((length text == 1) || not (slice_index text 0 == 48))
    && nat_lt (decimal_value text) 4_294_967_296

abbrev pub number_of : List ℕ → Option ℕ
number_of text = where_true (is_number text) (decimal_value text)

abbrev pub written_flight_of : List ℕ → Option Designator
written_flight_of line = flight_of line >>= λ f. where_true (bytes_eq (flight_text f) line) f

abbrev pub number_value : List ℕ → Option FieldValue
number_value line = number_of line >>= λ n. Some (Number n)

abbrev pub flight_value : List ℕ → Option FieldValue
flight_value line = written_flight_of line >>= λ f. Some (Flight f)

abbrev pub flight_value_if_any : List ℕ → Option FieldValue
flight_value_if_any [] = Some Absent
flight_value_if_any (b ∷ line) = flight_value (b ∷ line)

abbrev pub text_value_if_any : List ℕ → Option FieldValue
text_value_if_any [] = Some Absent
text_value_if_any (b ∷ line) = Some (Text (b ∷ line))

abbrev pub line_says : Kind → List ℕ → Option FieldValue
line_says kind.Text line = Some (Text line)
line_says kind.Number line = number_value line
line_says kind.Flight line = flight_value line
line_says kind.FlightIfAny line = flight_value_if_any line
line_says kind.TextIfAny line = text_value_if_any line

-- the value of a place, if field and line are both present or both absent
abbrev pub place_says : Option Field → Option (List ℕ) → Option FieldValue
place_says None None = Some Absent
place_says (Some field) (Some line) = line_says (kind_of field) line
place_says _ _ = None

-- the values of six places, and the command of the verb before them
abbrev pub places_say : List (Option Field) → List (Option (List ℕ)) → Option (List FieldValue)
places_say [] [] = Some []
places_say [] (line ∷ lines) = None
places_say (field ∷ fields) [] = None
places_say (field ∷ fields) (line ∷ lines) = do
  value ← place_says field line
  more ← places_say fields lines
  Some (value ∷ more)

-- the command of a verb's word and the lines after it
abbrev pub lines_say : List ℕ → List (Option (List ℕ)) → Option Command
lines_say word lines = do
  verb ← verb_called word
  values ← places_say (places verb) lines
  command_of verb values

-- `n` places, of which the last may be empty
abbrev pub places_of : {A : Type 0} → ℕ → List A → List (Option A)
places_of zero xs = []
places_of (suc n) [] = None ∷ places_of n []
places_of (suc n) (x ∷ xs) = Some x ∷ places_of n xs

-- the command of a verb's word and at most six lines
abbrev pub lines_command : List (List ℕ) → Option Command
lines_command [] = None
lines_command (word ∷ lines) =
    where_true (nat_le (length lines) 6) (places_of 6 lines) >>= lines_say word

abbrev pub text_says : List ℕ → Option Command
text_says text = lines_command (lines_of text)

-- a line is taken from the remaining text
abbrev pub IsNext : Option (List ℕ) → Option (List ℕ) → Option (List ℕ) → Type 0
IsNext left None after = (left ≡ None) × (after ≡ None)
IsNext left (Some line) after = lines_left left ≡ line ∷ lines_left after
