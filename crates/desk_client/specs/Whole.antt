-- Whole answers, and the ends of reports.
use Rattle.std.specs.Prelude.{◌==◌, ◌||◌, ◌&&◌, ◌-◌, ℕ, Bool, false, nat_lt, List, [], ◌∷◌, length, take, drop, reverse, codes, Option, Some, None, if◌then◌else◌, ◌≡◌, ◌⊎◌, ◌≤◌, ◌<◌, true, ◌++◌, map, ◌+◌}
use Rattle.desk_client.specs.Common.{ends_with, pointwise, bytes_eq, where_true, is_digit, Form, ResponseHead, ReadsResponse, HasNoResponse, MayBecomeResponse, status_code, name_and_value, number_told, media_type, values_of}
use Rattle.reports.specs.declared.layout.Form.TheVariants as form
use Rattle.desk_client.specs.declared.whole.Extent.{Extent}
use Rattle.desk_client.specs.declared.whole.Extent.TheVariants as extent
use Rattle.desk_client.specs.declared.whole.Found.{Found}
use Rattle.desk_client.specs.declared.whole.Found.TheVariants as found

-- The end of a report: the line with the number of its rows, or the end of the JSON object.

-- the text after the leading digits
abbrev pub behind_digits : List ℕ → List ℕ
behind_digits [] = []
behind_digits (b ∷ bs) = if is_digit b then behind_digits bs else b ∷ bs

abbrev pub before_digits : List ℕ → List ℕ
before_digits text = reverse (behind_digits (reverse text))

-- the text ends with digits, and with this before them
abbrev pub has_count : (List ℕ → Bool) → List ℕ → Bool
has_count is_front text = nat_lt (length (before_digits text)) (length text) && is_front (before_digits text)

-- a text without `end`, if it ends with it
abbrev pub without : List ℕ → List ℕ → Option (List ℕ)
without end text =
    where_true (pointwise ◌==◌ (drop (length text - length end) text) end) (take (length text - length end) text)

-- the text after this prefix, if it begins with it
abbrev pub behind : List ℕ → List ℕ → Option (List ℕ)
behind front text =
    where_true (bytes_eq (take (length front) text) front) (drop (length front) text)

abbrev pub has_count_in : (List ℕ → Bool) → Option (List ℕ) → Bool
has_count_in is_front None = false
has_count_in is_front (Some text) = has_count is_front text

-- the word of the last line, at the start of a line
abbrev pub is_before_count : List ℕ → Bool
is_before_count front = bytes_eq front (codes "END ") || ends_with ◌==◌ front (codes "\nEND ")

-- the end of the rows in JSON
abbrev pub is_before_json_count : List ℕ → Bool
is_before_json_count front = ends_with ◌==◌ front (codes "],\"count\":")

-- the end of a report in a form: a line such as `END 12`, or `],"count":12}` and the line's end
abbrev pub ends_in : Form → List ℕ → Bool
ends_in form.Text text = has_count_in is_before_count (without (codes "\n") text)
ends_in form.Json text = has_count_in is_before_json_count (without (codes "}\n") text)

-- the text ends as a report does, in one of the forms
abbrev pub has_end : List ℕ → Bool
has_end text = ends_in form.Text text || ends_in form.Json text

-- Whole answers.

abbrev pub most_fields : ℕ
most_fields = 16

-- the end of a media type, or parameters
abbrev pub is_type_end : List ℕ → Bool
is_type_end [] = true
is_type_end (b ∷ bs) = b == 59

abbrev pub is_type_end_in : Option (List ℕ) → Bool
is_type_end_in None = false
is_type_end_in (Some rest) = is_type_end rest

-- one media type is given, that of rows in a form
abbrev pub is_media : Form → List (List ℕ) → Bool
is_media f (value ∷ []) = is_type_end_in (behind (media_type f) value)
is_media f _ = false

abbrev pub has_media : Form → List (List ℕ × List ℕ) → Bool
has_media f fields = is_media f (values_of (codes "content-type") fields)

-- a body without a length is rows, by its media type
abbrev pub IsOfRows : List (List ℕ × List ℕ) → Type 0
IsOfRows fields = values_of (codes "content-length") fields ≡ []
    → has_media form.Text fields || has_media form.Json fields ≡ true

-- the one given length is that of the body; or none is given, and the body ends like a report
abbrev pub IsAsLong : List (List ℕ) → List ℕ → Type 0
IsAsLong [] body = has_end body ≡ true
IsAsLong (value ∷ []) body = number_told value ≡ Some (length body)
IsAsLong (value ∷ other ∷ values) body = ⊥

-- a desk never sends a chunked body
pub record IsWholeBody (fields : List (List ℕ × List ℕ)) (body : List ℕ) : Type 0 where
  pub plain : values_of (codes "transfer-encoding") fields ≡ []
  pub rows : IsOfRows fields
  pub long : IsAsLong (values_of (codes "content-length") fields) body

-- The bytes are a head of this status and then this whole body.
pub record IsWhole (bytes : List ℕ) (status : ℕ) (body : List ℕ) : Type 0 where
  pub head : ResponseHead
  pub reads : ReadsResponse bytes head body
  pub few : length head.fields ≤ most_fields
  pub status_is : status ≡ status_code head
  pub whole : IsWholeBody (map name_and_value head.fields) body

-- they aren't a whole answer
abbrev pub IsNotWhole : List ℕ → Type 0
IsNotWhole bytes = (status : ℕ) (body : List ℕ) → ¬ (IsWhole bytes status body)

-- they aren't, whatever bytes follow
abbrev pub IsNeverWhole : List ℕ → Type 0
IsNeverWhole bytes = (more : List ℕ) (status : ℕ) (body : List ℕ) → ¬ (IsWhole (bytes ++ more) status body)

-- the body is shorter than its given length; or none is given, and it doesn't end like a report
abbrev pub IsTooShort : List (List ℕ) → List ℕ → Type 0
IsTooShort [] body = has_end body ≡ false
IsTooShort (value ∷ []) body = (n : ℕ) × (number_told value ≡ Some n) × (length body < n)
IsTooShort (value ∷ other ∷ values) body = ⊥

pub record IsShortBody (fields : List (List ℕ × List ℕ)) (body : List ℕ) : Type 0 where
  pub plain : values_of (codes "transfer-encoding") fields ≡ []
  pub rows : IsOfRows fields
  pub short : IsTooShort (values_of (codes "content-length") fields) body

-- a head of a desk, whose body is too short
pub record IsShortBehind (bytes : List ℕ) : Type 0 where
  pub head : ResponseHead
  pub body : List ℕ
  pub reads : ReadsResponse bytes head body
  pub few : length head.fields ≤ most_fields
  pub short : IsShortBody (map name_and_value head.fields) body

-- the bytes end before the whole answer: within its head, or within its body
abbrev pub IsCutShort : List ℕ → Type 0
IsCutShort bytes = (HasNoResponse bytes × MayBecomeResponse bytes) ⊎ IsShortBehind bytes

-- The bytes are a head with the media type of rows in a form, and a body.
pub record IsOfForm (f : Form) (bytes : List ℕ) : Type 0 where
  pub head : ResponseHead
  pub body : List ℕ
  pub reads : ReadsResponse bytes head body
  pub few : length head.fields ≤ most_fields
  pub media : has_media f (map name_and_value head.fields) ≡ true

-- The bytes are a head of status 200 without a length, as a desk writes it before rows in a form,
-- and then this prefix of its body.
pub record IsReport (f : Form) (bytes body : List ℕ) : Type 0 where
  pub head : ResponseHead
  pub reads : ReadsResponse bytes head body
  pub few : length head.fields ≤ most_fields
  pub good : status_code head ≡ 200
  pub plain : values_of (codes "transfer-encoding") (map name_and_value head.fields) ≡ []
  pub untold : values_of (codes "content-length") (map name_and_value head.fields) ≡ []
  pub media : has_media f (map name_and_value head.fields) ≡ true

-- the extent of a body by its head
abbrev pub IsExtent : List (List ℕ) → List ℕ → Extent → Type 0
IsExtent lengths body extent.Whole = IsAsLong lengths body
IsExtent lengths body extent.Short = IsTooShort lengths body
IsExtent lengths body extent.Never = (more : List ℕ) → ¬ (IsAsLong lengths (body ++ more))

abbrev pub IsExtentOf : List (List ℕ × List ℕ) → List ℕ → Extent → Type 0
IsExtentOf fields body extent.Whole = IsWholeBody fields body
IsExtentOf fields body extent.Short = IsShortBody fields body
IsExtentOf fields body extent.Never = (more : List ℕ) → ¬ (IsWholeBody fields (body ++ more))

-- a whole answer, a prefix of one, or neither
abbrev pub IsFound : List ℕ → Found → Type 0
IsFound bytes (found.Whole place) = (place.start ≤ length bytes) × IsWhole bytes place.status (drop place.start bytes)
IsFound bytes found.Cut = IsNotWhole bytes × IsCutShort bytes
IsFound bytes found.Foreign = IsNeverWhole bytes

-- The prefix of a report that can be printed before the rest is received.

-- the byte that ends a row: of its line, and in JSON of its object
abbrev pub mark_of : Form → ℕ
mark_of form.Text = 10
mark_of form.Json = 125

-- A printable prefix of a report ends with a row, and not like a whole report.
pub record IsFront (form : Form) (front : List ℕ) : Type 0 where
  pub before : List ℕ
  pub ends : front ≡ before ++ mark_of form ∷ []
  pub unended : has_end front ≡ false

-- a text has a printable prefix up to `end`, and more after it
pub record IsFrontEnd (form : Form) (text : List ℕ) (end : ℕ) : Type 0 where
  pub some : 3 ≤ end
  pub more : end + 2 ≤ length text
  pub ends : take end text ≡ take (end - 1) text ++ mark_of form ∷ []
  pub unended : has_end (take end text) ≡ false

-- the bytes are a report's, whose body starts at `start` and has this printable prefix
pub record IsBegun (form : Form) (bytes : List ℕ) (start end : ℕ) : Type 0 where
  pub within : start ≤ length bytes
  pub report : IsReport form bytes (drop start bytes)
  pub front : IsFrontEnd form (drop start bytes) end
