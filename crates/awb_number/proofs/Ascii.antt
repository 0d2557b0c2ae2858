-- Texts of digits and letters are ASCII.
use Rattle.std.proofs.Common.{ℕ, zero, suc, ◌/◌, ◌≡◌, ◌<◌, ◌+◌, ◌%◌, Bool, true, false, ◌&&◌, List, [], ◌∷◌, refl, arith}
use Rattle.std.specs.Str.{IsAscii}
use Rattle.std.specs.List.{list_all}
use Rattle.std.proofs.lemmas.Bool.Decides.{nat_tests}
use Rattle.std.proofs.lemmas.Str.Ascii.{IsAscii-nil, IsAscii-cons, IsAscii-push}
use Rattle.awb_number.specs.Number.{is_letter_or_digit, padded}

first : (a b : Bool) → (a && b) ≡ true → a ≡ true
first true b h = refl
first false b h = cc

second : (a b : Bool) → (a && b) ≡ true → b ≡ true
second true b h = h
second false b h = cc

-- each byte passes a test that only ASCII passes
pub IsAscii-tested : (test : ℕ → Bool) → ((b : ℕ) → test b ≡ true → b < 128) → (text : List ℕ) → list_all test text ≡ true → IsAscii text
IsAscii-tested test ascii [] h = IsAscii-nil
IsAscii-tested test ascii (b ∷ bs) h =
    IsAscii-cons b bs (ascii b (first (test b) (list_all test bs) h)) (IsAscii-tested test ascii bs (second (test b) (list_all test bs) h))

pub ascii-letter_or_digit : (b : ℕ) → is_letter_or_digit b ≡ true → b < 128
ascii-letter_or_digit b h = grind (arith, nat_tests)

pub IsAscii-padded : (width n : ℕ) → IsAscii (padded width n)
IsAscii-padded zero n = IsAscii-nil
IsAscii-padded (suc width) n = IsAscii-push (padded width (n / 10)) (48 + n % 10) (IsAscii-padded width (n / 10)) (omega arith)
