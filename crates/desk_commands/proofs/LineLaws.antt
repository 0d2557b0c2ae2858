-- What a field holds is read again from its line, and what is read of a line is written so.
use Rattle.desk_commands.proofs.Common.{Absent, Bool, Designator, FieldValue, Flight, IfSome, IsDesignator, IsTrue, Kind, List, None, Number, Option, Some, Text, [], and_from, and_parts, ap, arith, bytes_eq, bytes_eq-refl, bytes_eq-true, count_of, decimal, decimal_value, decimal_value-last, decimal_value_bound, drop, drop_while, eq-eqb, eqb-true, false, flight_again, flight_of, flight_text, flight_value, flight_value_if_any, fold, is_carrier, is_digit, is_digit_bounds, is_digit_from, is_letter, is_number, le-leb, leb-true, length, line_of, line_says, list_all, list_all-append, lt-ltb, ltb-true, nat_le, ne_eqb, not, not_from_false, number_of, number_value, or_right, refl, slice_index, subst, suc, suffix_of, sym, take, take_while, text_value_if_any, true, written_flight_of, zero, ℕ, ◌%◌, ◌&&◌, ◌*◌, ◌++◌, ◌+◌, ◌-◌, ◌/◌, ◌<◌, ◌==◌, ◌>>=◌, ◌^◌, ◌||◌, ◌∙◌, ◌∷◌, ◌≡◌, ◌≤◌}
use Rattle.std.specs.Char.{digit_value}
use Rattle.std.specs.Str.Parse.{AllDigits, digits_value, digits_value_after}
use Rattle.std.proofs.Math.Nat.{pow-le-pow_right}
use Rattle.std.proofs.lemmas.Fmt.{decimal_by_steps, decimal_digit, decimal_nonempty, first_decimal, length-decimal-le, decimal-digits_value}
use Rattle.std.proofs.lemmas.Str.{digit_value_digit}
use Rattle.std.proofs.lemmas.Str.Parse.{numerals_by_value, tells_digits}
use Rattle.desk_commands.specs.declared.verb.Kind.TheVariants as kind
use Rattle.desk_commands.proofs.Fit.{Fits}
use Rattle.desk_commands.proofs.Free.{free, free_decimal, free_flight}
use Rattle.desk_commands.proofs.Made.{IsTyped}
use Rattle.desk_commands.proofs.Steps.{some_is, passes, passed, reads}

-- decimal digits, and the number that they write
record Writes (n : ℕ) (ds : List ℕ) : Type 0 where
  digits : list_all is_digit ds ≡ true
  value : decimal_value ds ≡ n

decimal_writes : (n : ℕ) → n < 2 ^ 64 → Writes n (decimal n)
decimal_writes n lt = decimal_by_steps Writes one more n lt
  where
    one : (m : ℕ) → m < 10 → Writes m ((48 + m) ∷ [])
    one m low = record { digits = and_from _ _ (is_digit_from (48 + m) (omega arith) (omega (arith, low))) refl; value = omega arith }

    more : (m : ℕ) (ds : List ℕ) → 10 ≤ m → Writes (m / 10) ds → Writes m (ds ++ ((48 + m % 10) ∷ []))
    more m ds high h = record {
      digits = list_all-append is_digit ds ((48 + m % 10) ∷ []) ∙ and_from _ _ h.digits (and_from _ _ (is_digit_from (48 + m % 10) (omega arith) (omega arith)) refl);
      value = let v = decimal_value-last ds (48 + m % 10) in let w = h.value in omega (arith, v, w);
    }

-- no zero stands in front of another digit
no_zero_in_front : (n : ℕ) → n < 4_294_967_296 → ((length (decimal n) == 1) || not (slice_index (decimal n) 0 == 48)) ≡ true
no_zero_in_front zero small = ap (λ (ds : List ℕ). (length ds == 1) || not (slice_index ds 0 == 48)) (decimal_digit 0 (omega arith))
no_zero_in_front (suc n) small =
    let first = first_decimal (suc n) (omega arith) (omega (arith, small)) in
    or_right (length (decimal (suc n)) == 1) _ (not_from_false _ (ne_eqb (slice_index (decimal (suc n)) 0) 48 (λ e. omega (arith, first, e))))

pub number_again : (n : ℕ) → n < 4_294_967_296 → number_of (decimal n) ≡ Some n
number_again n small =
    let wide : n < 2 ^ 64 = omega (arith, small) in
    let w = decimal_writes n wide in
    let short : length (decimal n) ≤ 10 = length-decimal-le 10 n (omega arith) (omega (arith, small)) wide in
    let long : 1 ≤ length (decimal n) = decimal_nonempty n wide in
    let value : decimal_value (decimal n) < 4_294_967_296 = omega (arith, w.value, small) in
    passes (is_number (decimal n)) (decimal_value (decimal n))
    (and_from _ _ (and_from _ _ (and_from _ _ (and_from _ _ (le-leb _ _ long) (le-leb _ _ short)) w.digits) (no_zero_in_front n small)) (lt-ltb _ _ value))
    ∙ ap (λ (v : ℕ). Some v) w.value

pub written_flight_again : (f : Designator) → IsDesignator f → written_flight_of (flight_text f) ≡ Some f
written_flight_again f h =
    rw (flight_again f h) (passes (bytes_eq (flight_text f) (flight_text f)) f (bytes_eq-refl (flight_text f)))

-- ---- the number that a line writes

all_digits : (ds : List ℕ) → list_all is_digit ds ≡ true → AllDigits 10 ds
all_digits [] h = tt
all_digits (b ∷ ds) h =
    let parts = and_parts _ _ h in
    let bounds = is_digit_bounds b parts.0 in
    let worth = digit_value_digit b (bounds.0, bounds.1) in
    (omega (arith, worth, bounds.1), all_digits ds parts.1)

value_after : (n : ℕ) (ds : List ℕ) → list_all is_digit ds ≡ true → digits_value_after 10 n ds ≡ fold (λ n b. n * 10 + (b - 48)) n ds
value_after n [] h = refl
value_after n (b ∷ ds) h =
    let parts = and_parts _ _ h in
    let bounds = is_digit_bounds b parts.0 in
    let worth = digit_value_digit b (bounds.0, bounds.1) in
    let same : n * 10 + digit_value b ≡ n * 10 + (b - 48) = omega (arith, worth) in
    ap (λ m. digits_value_after 10 m ds) same ∙ value_after (n * 10 + (b - 48)) ds parts.1

lead : (a b : Bool) → (a || not b) ≡ true → b ≡ true → a ≡ true
lead true b h k = refl
lead false true h k = cc h
lead false false h k = cc k

record IsDecimal (line : List ℕ) (n : ℕ) : Type 0 where
  pub small : n < 4_294_967_296
  pub is_line : decimal n ≡ line

number_made : (line : List ℕ) (n : ℕ) → number_of line ≡ Some n → IsDecimal line n
number_made line n h =
    let p = passed (is_number line) (decimal_value line) n h in
    let a = and_parts _ _ p.0 in
    let b = and_parts _ _ a.0 in
    let c = and_parts _ _ b.0 in
    let d = and_parts _ _ c.0 in
    let value : digits_value 10 line ≡ decimal_value line = value_after 0 line c.1 in
    let low : decimal_value line < 4_294_967_296 = ltb-true _ _ a.1 in
    let spelled = decimal-digits_value (numerals_by_value _ tells_digits) line (all_digits line c.1) (leb-true _ _ d.0)
    (λ e. eqb-true _ _ (lead (length line == 1) (slice_index line 0 == 48) b.1 (eq-eqb _ _ e))) (omega (arith, value, low)) in
    subst (IsDecimal line) p.1 (record { small = low; is_line = ap decimal (sym value) ∙ spelled })

-- ---- the flight that a line names

suffix_made : (text : List ℕ) (suffix : Option ℕ) → suffix_of text ≡ Some suffix → IfSome suffix (λ b. IsTrue (is_letter b))
suffix_made [] suffix h = subst (λ s. IfSome s (λ b. IsTrue (is_letter b))) (some_is {A = Option ℕ} None suffix h) tt
suffix_made (b ∷ []) suffix h =
    let p = passed {A = Option ℕ} (is_letter b) (Some b) suffix h in
    subst (λ s. IfSome s (λ b. IsTrue (is_letter b))) p.1 p.0
suffix_made (b ∷ c ∷ text) suffix h = cc h

four_digits : (ds : List ℕ) → list_all is_digit ds ≡ true → length ds ≤ 4 → decimal_value ds ≤ 9999
four_digits ds digits short =
    let ten : 0 < 10 = omega arith in
    let most : 10 ^ length ds ≤ 10 ^ 4 = pow-le-pow_right ten short in
    let low = decimal_value_bound ds digits in
    omega (arith, most, low)

count_made : (ds : List ℕ) (n : ℕ) → count_of ds ≡ Some n → (1 ≤ n) × (n ≤ 9999)
count_made ds n h =
    let p = passed (nat_le 1 (length ds) && nat_le (length ds) 4 && list_all is_digit ds && nat_le 1 (decimal_value ds)) (decimal_value ds) n h in
    let a = and_parts _ _ p.0 in
    let b = and_parts _ _ a.0 in
    let c = and_parts _ _ b.0 in
    subst (λ m. (1 ≤ m) × (m ≤ 9999)) p.1 (leb-true _ _ a.1, four_digits ds b.1 (leb-true _ _ c.1))

pub flight_made : (text : List ℕ) (f : Designator) → flight_of text ≡ Some f → IsDesignator f
flight_made text f h =
    reads (λ c e. passed (is_carrier (take 2 text)) (take 2 text) c e) (λ c p. reads (count_made (take_while is_digit (drop 2 text))) (λ _ n.
    reads (suffix_made (drop_while is_digit (drop 2 text))) (λ _ suffix h.
    let carrier : IsTrue (is_carrier c) = subst (λ c. is_carrier c ≡ true) p.1 p.0 in
    subst IsDesignator (some_is _ f h) (carrier, n.0, n.1, suffix)))) h

-- ---- each kind of line

if_any : (line : List ℕ) (g : FieldValue) → flight_value line ≡ Some g → flight_value_if_any line ≡ Some g
if_any [] g h = let bad : ◌≡◌ {A = Option FieldValue} None (Some g) = h in cc bad
if_any (b ∷ line) g h = h

text_if_any : (line : List ℕ) → 0 < length line → text_value_if_any line ≡ Some (Text line)
text_if_any [] h = absurd (omega (arith, h))
text_if_any (b ∷ line) h = refl

flight_line_again : (f : Designator) → IsDesignator f → flight_value (flight_text f) ≡ Some (Flight f)
flight_line_again f h = ap (λ (o : Option Designator). o >>= λ x. Some (Flight x)) (written_flight_again f h)

pub line_again : (k : Kind) (g : FieldValue) → Fits k g → line_says k (line_of g) ≡ Some g
line_again kind.Text (Text t) h = refl
line_again kind.Number (Number n) h = ap (λ (o : Option ℕ). o >>= λ x. Some (Number x)) (number_again n h)
line_again kind.Flight (Flight f) h = flight_line_again f h
line_again kind.FlightIfAny (Flight f) h = if_any (flight_text f) (Flight f) (flight_line_again f h)
line_again kind.FlightIfAny Absent h = refl
line_again kind.TextIfAny (Text t) h = text_if_any t h.1
line_again kind.TextIfAny Absent h = refl
line_again _ _ h = absurd h

pub line_free : (k : Kind) (g : FieldValue) → Fits k g → free (line_of g) ≡ true
line_free kind.Text (Text t) h = h
line_free kind.Number (Number n) h = free_decimal n h
line_free kind.Flight (Flight f) h = free_flight f h
line_free kind.FlightIfAny (Flight f) h = free_flight f h
line_free kind.FlightIfAny Absent h = refl
line_free kind.TextIfAny (Text t) h = h.0
line_free kind.TextIfAny Absent h = refl
line_free _ _ h = absurd h

pub record IsLine (line : List ℕ) (g : FieldValue) : Type 0 where
  pub is_line : line_of g ≡ line
  pub range : IsTyped g

text_line : (line : List ℕ) (g : FieldValue) → ◌≡◌ {A = Option FieldValue} (Some (Text line)) (Some g) → IsLine line g
text_line line g h = subst (IsLine line) (some_is (Text line) g h) (record { is_line = refl; range = tt })

absent_line : (g : FieldValue) → ◌≡◌ {A = Option FieldValue} (Some Absent) (Some g) → IsLine [] g
absent_line g h = subst (IsLine []) (some_is Absent g h) (record { is_line = refl; range = tt })

flight_line : (line : List ℕ) (g : FieldValue) → flight_value line ≡ Some g → IsLine line g
flight_line line g h =
    reads (λ f e. e) (λ f written h. reads (flight_made line) (λ read range k.
    let p = passed (bytes_eq (flight_text read) line) read f k in
    subst (IsLine line) (ap (λ f. Flight f) p.1 ∙ some_is _ g h) (record { is_line = bytes_eq-true (flight_text read) line p.0; range = range })) written) h

number_line : (line : List ℕ) (g : FieldValue) → number_value line ≡ Some g → IsLine line g
number_line line g h =
    reads (number_made line) (λ _ n h. subst (IsLine line) (some_is _ g h) (record { is_line = n.is_line; range = n.small })) h

flight_line_if_any : (line : List ℕ) (g : FieldValue) → flight_value_if_any line ≡ Some g → IsLine line g
flight_line_if_any [] g h = absent_line g h
flight_line_if_any (b ∷ line) g h = flight_line (b ∷ line) g h

text_line_if_any : (line : List ℕ) (g : FieldValue) → text_value_if_any line ≡ Some g → IsLine line g
text_line_if_any [] g h = absent_line g h
text_line_if_any (b ∷ line) g h = text_line (b ∷ line) g h

pub line_made : (k : Kind) (line : List ℕ) (g : FieldValue) → line_says k line ≡ Some g → IsLine line g
line_made kind.Text line g h = text_line line g h
line_made kind.Number line g h = number_line line g h
line_made kind.Flight line g h = flight_line line g h
line_made kind.FlightIfAny line g h = flight_line_if_any line g h
line_made kind.TextIfAny line g h = text_line_if_any line g h
