-- Characters, counts, weights, flights, airports and slices of a text.
use Rattle.std.specs.Prelude.{◌≡◌, false, [], ◌∷◌, ℕ, ◌-◌, Bool, ◌&&◌, ◌==◌, nat_le, List, length, take, drop, ◌≤◌, ◌++◌, replicate, ◌+◌, ◌*◌, ◌/◌, ◌^◌, max, ◌||◌, not, filter, count_by, slice_index, Option, true, nat_lt, if◌then◌else◌, take_while, Some, None, IsTrue, IfSome, slice_range, ⊤}
use Rattle.std.proofs.Common.{sym, ap, ◌∙◌, subst}
use Rattle.std.proofs.lemmas.List.{length-take-le}
use Rattle.imp_fields.specs.Common.{list_all, prefix_len, suffix_len, slice_split, after_first, is_digit, decimal_value, where_true, list_any, bytes_eq, is_letter, padded, is_letter_or_digit, ◌>>=◌, WeightUnit, Kilograms, Pounds, Token}

-- Kinds of characters, and the fields of a line.

-- a space or printable ASCII
abbrev pub is_printable : ℕ → Bool
is_printable b = nat_le 32 b && nat_le b 126

abbrev pub is_blank : ℕ → Bool
is_blank b = b == 32

abbrev pub is_point : ℕ → Bool
is_point b = b == 46

abbrev pub is_slash : ℕ → Bool
is_slash b = b == 47

-- a line of a message is printable, and has at most 255 bytes
abbrev pub is_line : List ℕ → Bool
is_line text = list_all is_printable text && nat_le (length text) 255

-- the fields of a line, separated by slashes
abbrev pub fields : List ℕ → List (List ℕ)
fields line = slice_split is_slash line

-- the elements after the leading ones that pass the test
abbrev pub drop_while : {X : Type 0} → (X → Bool) → List X → List X
drop_while test xs = drop (prefix_len test xs) xs

-- the trailing elements that pass the test, and the elements before them
abbrev pub last_while : {X : Type 0} → (X → Bool) → List X → List X
last_while test xs = drop (length xs - suffix_len test xs) xs

abbrev pub before_last_while : {X : Type 0} → (X → Bool) → List X → List X
before_last_while test xs = take (length xs - suffix_len test xs) xs

-- the first element, if any, fails the test
abbrev pub NoneInFront : {X : Type 0} → (X → Bool) → List X → Type 0
NoneInFront test [] = Unit {0}
NoneInFront test (b ∷ text) = test b ≡ false

-- Sizes of telegrams.

-- the largest size of a telegram in bytes
abbrev pub most_bytes : ℕ
most_bytes = 65_536

abbrev pub most_lines : ℕ
most_lines = 1_000

-- Short texts in a fixed buffer, padded with zeros.

pub record IsPadded (most len : ℕ) (bytes : List ℕ) : Type 0 where
  pub short : len ≤ most
  pub whole : length bytes ≡ most
  pub zeros : bytes ≡ take len bytes ++ replicate (most - len) 0

-- the text has its full length in the buffer
pub padding_length : (most len : ℕ) (bytes : List ℕ) → IsPadded most len bytes → length (take len bytes) ≡ len
padding_length most len bytes h = length-take-le len bytes (subst (λ n. len ≤ n) (sym h.whole) h.short)

pub padding_bytes : (most len : ℕ) (bytes : List ℕ) → IsPadded most len bytes → take len bytes ++ replicate (most - length (take len bytes)) 0 ≡ bytes
padding_bytes most len bytes h = ap (λ n. take len bytes ++ replicate (most - n) 0) (padding_length most len bytes h) ∙ sym h.zeros

-- Counts of pieces, and weights in tenths of a kilogram.

-- the largest number of pieces in a message, and of a waybill in the books
abbrev pub most_pieces : ℕ
most_pieces = 9_999

abbrev pub most_parts : ℕ
most_parts = 9_999

-- the largest weight in a message, in tenths of a kilogram: 9,999,999 kilograms
abbrev pub most_message_tenths : ℕ
most_message_tenths = 99_999_990

-- the largest weight in the books, and in a written message, whose weights have at most seven
-- characters
abbrev pub most_tenths : ℕ
most_tenths = 999_999

-- a message gives at least one piece
abbrev pub IsPieces : ℕ → Type 0
IsPieces n = (1 ≤ n) × (n ≤ most_pieces)

-- the parts of a manifest are numbered from 1
abbrev pub IsPartNumber : ℕ → Type 0
IsPartNumber n = (1 ≤ n) × (n ≤ most_parts)

abbrev pub IsTenths : ℕ → Type 0
IsTenths n = n ≤ most_message_tenths

-- a weight of the books, and of a written message
abbrev pub IsBookTenths : ℕ → Type 0
IsBookTenths n = n ≤ most_tenths

-- the share of the weight of `pieces` for `part` of them, rounded down
abbrev pub share_of : ℕ → ℕ → ℕ → ℕ
share_of pieces tenths part = tenths * part / pieces

-- the weight at which pieces are booked
abbrev pub book_weight_of : ℕ → ℕ → ℕ
book_weight_of pieces tenths = max tenths pieces

-- one to four digits, of value at least 1
abbrev pub count_of : List ℕ → Option ℕ
count_of digits =
    where_true (nat_le 1 (length digits) && nat_le (length digits) 4 && list_all is_digit digits && nat_le 1 (decimal_value digits))
    (decimal_value digits)

abbrev pub is_digit_or_point : ℕ → Bool
is_digit_or_point b = is_digit b || is_point b

-- one to seven digits and points, at most one of them a point, which isn't first or last
abbrev pub is_weight_numeral : List ℕ → Bool
is_weight_numeral numeral =
    nat_le 1 (length numeral) && nat_le (length numeral) 7 && list_all is_digit_or_point numeral
    && nat_le (count_by is_point numeral) 1
    && not (is_point (slice_index numeral 0)) && not (is_point (slice_index numeral (length numeral - 1)))

-- the tenths in n/d kilograms, a half rounded up
abbrev pub rounded_tenths : ℕ → ℕ → ℕ
rounded_tenths n d = (n * 20 + d) / (d * 2)

-- a numeral's digits, read without the point, and the power of ten to divide by
abbrev pub numerator_of : List ℕ → ℕ
numerator_of numeral = decimal_value (filter is_digit numeral)

abbrev pub denominator_of : List ℕ → ℕ
denominator_of numeral = 10 ^ length (after_first is_point numeral)

-- a pound is 0.45359237 kilograms; the exact product is rounded once
abbrev pub tenths_of : WeightUnit → List ℕ → ℕ
tenths_of Kilograms numeral = rounded_tenths (numerator_of numeral) (denominator_of numeral)
tenths_of Pounds numeral = rounded_tenths (numerator_of numeral * 45_359_237) (denominator_of numeral * 100_000_000)

-- Flight designators: `LH400`.

abbrev pub most_flight_number : ℕ
most_flight_number = 9_999

abbrev pub most_waybills : ℕ
most_waybills = 500

-- a carrier of two characters, a number, and an optional letter
pub record Designator : Type 0 where
  pub carrier : List ℕ
  pub number : ℕ
  pub suffix : Option ℕ

-- two upper-case letters or digits, at least one of them a letter
abbrev pub is_carrier : List ℕ → Bool
is_carrier text = (length text == 2) && list_all is_letter_or_digit text && list_any is_letter text

abbrev pub IsDesignator : Designator → Type 0
IsDesignator f =
    IsTrue (is_carrier f.carrier) × (1 ≤ f.number) × (f.number ≤ most_flight_number) × IfSome f.suffix (λ b. IsTrue (is_letter b))

-- nothing, or one letter
abbrev pub suffix_of : List ℕ → Option (Option ℕ)
suffix_of [] = Some None
suffix_of (b ∷ []) = where_true (is_letter b) (Some b)
suffix_of (b ∷ c ∷ text) = None

-- a carrier, one to four digits of value at least 1, and an optional letter; leading zeros don't
-- count
abbrev pub flight_of : List ℕ → Option Designator
flight_of text = do
  carrier ← where_true (is_carrier (take 2 text)) (take 2 text)
  number ← count_of (take_while is_digit (drop 2 text))
  suffix ← suffix_of (drop_while is_digit (drop 2 text))
  Some (record { carrier = carrier; number = number; suffix = suffix })

abbrev pub suffix_text : Option ℕ → List ℕ
suffix_text None = []
suffix_text (Some b) = b ∷ []

-- written with at least three digits
abbrev pub flight_text : Designator → List ℕ
flight_text f = f.carrier ++ (if nat_lt f.number 1000 then padded 3 f.number else padded 4 f.number) ++ suffix_text f.suffix

-- true if both letters are the same, or both absent
abbrev pub same_letter : Option ℕ → Option ℕ → Bool
same_letter None None = true
same_letter (Some a) (Some b) = a == b
same_letter _ _ = false

-- true if two designators have the same carrier, number and letter
abbrev pub same_flight : Designator → Designator → Bool
same_flight a b = bytes_eq a.carrier b.carrier && ((a.number == b.number) && same_letter a.suffix b.suffix)

-- Airports by their codes.

-- three upper-case letters
abbrev pub is_airport : List ℕ → Bool
is_airport text = (length text == 3) && list_all is_letter text

abbrev pub airport_of : List ℕ → Option (List ℕ)
airport_of text = where_true (is_airport text) text

-- Slices of a text and their positions.

-- the token is the slice of the source at its position
pub record IsSlice (source : List ℕ) (t : Token) : Type 0 where
  pub ordered : t.start ≤ t.end
  pub within : t.end ≤ length source
  pub bytes : t.text.now ≡ slice_range source t.start t.end

-- the token's bytes are a line of a message
abbrev pub is_line_token : Token → Bool
is_line_token t = is_line t.text.now

-- each token is a slice of the source, and none begins before the previous one ends
abbrev pub AreSlicesFrom : ℕ → List ℕ → List Token → Type 0
AreSlicesFrom from source [] = ⊤
AreSlicesFrom from source (t ∷ ts) = (from ≤ t.start) × IsSlice source t × AreSlicesFrom t.end source ts

abbrev pub AreSlices : List ℕ → List Token → Type 0
AreSlices source tokens = AreSlicesFrom 0 source tokens
