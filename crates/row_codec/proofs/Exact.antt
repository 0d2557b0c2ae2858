-- A row is read exactly where each of its columns is within range.
use Rattle.row_codec.proofs.Fits.{day_fits, number_fits, within}
use Rattle.row_codec.proofs.Tests.{same_bool}
use Rattle.row_codec.proofs.Common.{Bool, Expected, ExpectedKey, Flight, FlightKey, Global, IsMomentDay, IsTrue, IsUtf8-string_bytes, Kept, List, String, and_from, and_parts, arith, false, int_le, ints, is_airport, is_count, is_day, is_expected_key, is_expected_row, is_flag, is_flight_key, is_flight_row, is_kept_row, is_key, is_number, is_some, is_utf8, is_utf8-from_IsUtf8, is_within, pos, refl, string_bytes, true, where_true, ℕ, ℤ, ◌&&◌, ◌<◌, ◌↔◌, ◌≡◌, ◌≤◌}

-- ---- one column

within_bounds : (low high n : ℕ) → is_within low high (pos n) ≡ true → (low ≤ n) × (n ≤ high)
within_bounds low high n h = (grind (arith, ints), grind (arith, ints))

-- a number is within bounds exactly where both hold
pub within_both : (low high n : ℕ) (b : Bool) → (IsTrue b ↔ ((low ≤ n) × (n ≤ high))) → b ≡ is_within low high (pos n)
within_both low high n b h = same_bool _ _ (λ t. let bounds = h.0 t in within low high n bounds.0 bounds.1) (λ t. h.1 (within_bounds low high n t))

pub within_most : (high n : ℕ) (b : Bool) → (IsTrue b ↔ (n ≤ high)) → b ≡ is_within 0 high (pos n)
within_most high n b h = same_bool _ _ (λ t. within 0 high n (omega arith) (h.0 t)) (λ t. h.1 (within_bounds 0 high n t).1)

pub within_number : (n : ℕ) (b : Bool) → (IsTrue b ↔ (n < 10_000_000_000)) → b ≡ is_number (pos n)
within_number n b h = same_bool _ _ (λ t. number_fits n (h.0 t)) (λ t. let bounds = within_bounds 0 9_999_999_999 n t in h.1 (omega arith))

-- a day and a minute, together
pub within_moment : (day minute : ℕ) (b : Bool) → (IsTrue b ↔ (IsMomentDay day × (minute < 1440))) → b ≡ (is_day (pos day) && is_within 0 1439 (pos minute))
within_moment day minute b h = same_bool _ _
    (λ t. let parts = h.0 t in and_from _ _ (day_fits day parts.0) (within 0 1439 minute (omega arith) (let low : minute < 1440 = parts.1 in omega arith)))
    (λ t.
    let parts = and_parts (is_day (pos day)) (is_within 0 1439 (pos minute)) t in
    let most = (within_bounds 0 1439 minute parts.1).1 in
    h.1 (within_bounds 10957 47481 day parts.0, omega arith))

pub same_tests : (a b : Bool) → (IsTrue a ↔ IsTrue b) → a ≡ b
same_tests a b h = same_bool a b h.0 h.1

pub some_where : {X : Type 0} (b : Bool) (x : X) → is_some (where_true b x) ≡ b
some_where true x = refl
some_where false x = refl

-- ---- a row of the stock

-- a prefix and a serial, together
pub within_number_parts : (prefix serial : ℕ) (b : Bool) → (IsTrue b ↔ ((prefix < 1000) × (serial < 10_000_000))) → b ≡ (is_within 0 999 (pos prefix) && is_within 0 9_999_999 (pos serial))
within_number_parts prefix serial b h = same_bool _ _
    (λ t.
    let parts = h.0 t in
    let x : prefix < 1000 = parts.0 in
    let y : serial < 10_000_000 = parts.1 in
    and_from _ _ (within 0 999 prefix (omega arith) (omega arith)) (within 0 9_999_999 serial (omega arith) (omega arith)))
    (λ t.
    let parts = and_parts (is_within 0 999 (pos prefix)) (is_within 0 9_999_999 (pos serial)) t in
    let x = (within_bounds 0 999 prefix parts.0).1 in
    let y = (within_bounds 0 9_999_999 serial parts.1).1 in
    h.1 (omega arith, omega arith))

pub serials_within : (low : ℤ) → IsTrue (is_within 0 9_999_999 low) → IsTrue (int_le (pos 0) low) × IsTrue (int_le low (pos 9_999_999))
serials_within low h = and_parts (int_le (pos 0) low) (int_le low (pos 9_999_999)) h

-- what is tested of a row, by its parts
pub no_number : (a b c d e : Bool) → false ≡ (a && b) → false ≡ (a && b && c && d && e)
no_number a b c d e h = grind arith

pub no_count : (a b c d e : Bool) → false ≡ (c && d) → false ≡ (a && b && c && d && e)
no_count a b c d e h = grind arith

pub no_holder : (a b c d e : Bool) → false ≡ e → false ≡ (a && b && c && d && e)
no_holder a b c d e h = grind arith

pub all_tests : (a b c d e : Bool) → true ≡ (a && b) → true ≡ (c && d) → true ≡ e → true ≡ (a && b && c && d && e)
all_tests a b c d e h k l = grind arith

-- ---- the columns behind a key within range

pub under_flight : (key : FlightKey) (row : Flight) (s : Bool) → IsTrue (is_flight_key key) → s ≡ (is_airport row.unload && is_flag row.closed) → s ≡ is_flight_row (key, row)
under_flight key row s is same = rw is same

pub under_expected : (key : ExpectedKey) (row : Expected) (s : Bool) → IsTrue (is_expected_key key)
    → s ≡ (is_within 1 9999 row.pieces && is_within 0 999_999 row.tenths && is_flag row.checked) → s ≡ is_expected_row (key, row)
under_expected key row s is same = rw is same

pub under_key : (key : List ℕ) (row : Kept) (s : Bool) → IsTrue (is_key key) → is_utf8 row.command ≡ true → s ≡ is_count row.count → s ≡ is_kept_row (key, row)
under_key key row s is text same = rw (is, text) same

-- what a row holds as a text is one
pub text_is : (text : String Global) → is_utf8 (string_bytes text) ≡ true
text_is text = is_utf8-from_IsUtf8 _ (IsUtf8-string_bytes text)
