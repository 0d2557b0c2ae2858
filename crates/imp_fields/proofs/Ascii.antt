-- Fields as they are written are ASCII.
use Rattle.imp_fields.proofs.Common.{Designator, IsAscii, IsDesignator, List, [], and_parts, arith, flight_text, is_airport, is_carrier, is_goods, is_letter, is_letter_or_digit, is_name, is_printable, true, ℕ, ◌++◌, ◌<◌, ◌∷◌, ◌≡◌}
use Rattle.std.proofs.lemmas.Bool.Decides.{nat_tests}
use Rattle.awb_number.proofs.Ascii.{IsAscii-tested, ascii-letter_or_digit}
use Rattle.imp_fields.proofs.FieldLaws.{flight_code}

ascii-letter : (b : ℕ) → is_letter b ≡ true → b < 128
ascii-letter b h = grind (arith, nat_tests)

ascii-printable : (b : ℕ) → is_printable b ≡ true → b < 128
ascii-printable b h = grind (arith, nat_tests)

pub IsAscii-airport : (code : List ℕ) → is_airport code ≡ true → IsAscii code
IsAscii-airport code h = IsAscii-tested is_letter ascii-letter code (and_parts _ _ h).1

pub IsAscii-carrier : (code : List ℕ) → is_carrier code ≡ true → IsAscii code
IsAscii-carrier code h = IsAscii-tested is_letter_or_digit ascii-letter_or_digit code (and_parts _ _ (and_parts _ _ h).0).1

pub IsAscii-name : (text : List ℕ) → is_name text ≡ true → IsAscii text
IsAscii-name text h = IsAscii-tested is_printable ascii-printable text (and_parts _ _ (and_parts _ _ h).0).1

pub IsAscii-goods : (text : List ℕ) → is_goods text ≡ true → IsAscii text
IsAscii-goods text h = IsAscii-tested is_printable ascii-printable text (and_parts _ _ (and_parts _ _ h).0).1

pub IsAscii-flight : (f : Designator) → IsDesignator f → IsAscii (flight_text f)
IsAscii-flight f h = IsAscii-tested is_letter_or_digit ascii-letter_or_digit (flight_text f) (flight_code f h).bytes
