-- One field: what is read of it, and that what it holds is read again.
use Rattle.desk_commands.proofs.Common.{Bool, Designator, Err, FieldValue, Flight, FlightDate, IfSome, IsAirport, IsCount, IsFlightDate, IsMomentDay, IsNumber, IsPieces, IsRun, IsTenths, IsTrue, List, None, Number, Ok, Option, Result, Some, Text, agent_in, airline_in, airport_in, and_from, and_parts, ap, arith, awb_in, awb_of, count_in, counted_in, day, day_if_any, day_of, decimal_value, decimal_value-padded, decimal_value_bound, digits-padded, digits_in, digits_of, eq-eqb, eqb-true, false, flight, flight_date_in, flight_if_any, flight_if_any_in, flight_in, goods_in, is_agent_code, is_airport, is_carrier, is_digit, is_goods, is_name, le-leb, leb-true, length, list_all, name_in, nat_le, number, number_in, padded, padded-decimal_value, pieces_in, prefix_of, prefix_text, refl, run_in, serial_of, serial_text, subst, sym, tenths_in, text_in, true, where_true, ℕ, ◌&&◌, ◌<◌, ◌==◌, ◌>>=◌, ◌^◌, ◌∙◌, ◌≡◌, ◌≤◌}
use Rattle.std.specs.Result.{result_ok, MatchResult}
use Rattle.std.specs.Array.{IsWholeChunk}
use Rattle.awb_number.specs.Number.{number_of}
use Rattle.awb_number.specs.declared.awb.AwbFault.{AwbFault}
use Rattle.awb_number.proofs.Keys.{prefix_of-key, serial_of-key, key_of-parts, key_in_range, prefix_in_range, serial_in_range}
use Rattle.awb_number.proofs.NumberLaws.{number_again, number_takes}
use Rattle.agent_stock.specs.declared.stock.Run.{Run}
use Rattle.desk_commands.proofs.Days.{day_is, day_again}
use Rattle.desk_commands.proofs.Steps.{some_is, passed, passes, reads}

-- ---- what is read of a text

record FromText {A : Type 0} (of : List ℕ → Option A) (g : FieldValue) (x : A) : Type 0 where
  pub text : List ℕ
  pub is_text : g ≡ Text text
  pub read : of text ≡ Some x

from_text : {A : Type 0} (of : List ℕ → Option A) (g : FieldValue) (x : A) → (text_in g >>= of) ≡ Some x → FromText of g x
from_text of (Text text) x h = record { text = text; is_text = refl; read = h }
from_text of _ x h = cc h

record FromNumber {A : Type 0} (of : ℕ → Option A) (g : FieldValue) (x : A) : Type 0 where
  pub value : ℕ
  pub is_number : g ≡ Number value
  pub read : of value ≡ Some x

from_number : {A : Type 0} (of : ℕ → Option A) (g : FieldValue) (x : A) → (number_in g >>= of) ≡ Some x → FromNumber of g x
from_number of (Number n) x h = record { value = n; is_number = refl; read = h }
from_number of _ x h = cc h

pub number_is : (g : FieldValue) (n : ℕ) → number_in g ≡ Some n → g ≡ Number n
number_is (Number m) n h = ap Number (some_is m n h)
number_is _ n h = cc h

pub flight_is : (g : FieldValue) (f : Designator) → flight_in g ≡ Some f → g ≡ Flight f
flight_is (Flight e) f h = ap Flight (some_is e f h)
flight_is _ f h = cc h

-- a text that passes a test
tested : (test : List ℕ → Bool) (g : FieldValue) (t : List ℕ) → (text_in g >>= λ text. where_true (test text) text) ≡ Some t → (IsTrue (test t)) × (g ≡ Text t)
tested test g t h =
    let r = from_text (λ text. where_true (test text) text) g t h in
    let p = passed (test r.text) r.text t r.read in
    (subst (λ x. test x ≡ true) p.1 p.0, r.is_text ∙ ap Text p.1)

pub airport_is : (g : FieldValue) (t : List ℕ) → airport_in g ≡ Some t → IsAirport t × (g ≡ Text t)
airport_is g t h = tested is_airport g t h

pub airline_is : (g : FieldValue) (t : List ℕ) → airline_in g ≡ Some t → IsTrue (is_carrier t) × (g ≡ Text t)
airline_is g t h = tested is_carrier g t h

pub name_is : (g : FieldValue) (t : List ℕ) → name_in g ≡ Some t → IsTrue (is_name t) × (g ≡ Text t)
name_is g t h = tested is_name g t h

pub goods_is : (g : FieldValue) (t : List ℕ) → goods_in g ≡ Some t → IsTrue (is_goods t) × (g ≡ Text t)
goods_is g t h = tested is_goods g t h

pub agent_is : (g : FieldValue) (t : List ℕ) → agent_in g ≡ Some t → IsTrue (is_agent_code t) × (g ≡ Text t)
agent_is g t h = tested is_agent_code g t h

-- a number that passes a test
counted : (test : ℕ → Bool) (g : FieldValue) (n : ℕ) → (number_in g >>= λ m. where_true (test m) m) ≡ Some n → (test n ≡ true) × (g ≡ Number n)
counted test g n h =
    let r = from_number (λ m. where_true (test m) m) g n h in
    let p = passed (test r.value) r.value n r.read in
    (subst (λ x. test x ≡ true) p.1 p.0, r.is_number ∙ ap Number p.1)

pub pieces_is : (g : FieldValue) (n : ℕ) → pieces_in g ≡ Some n → IsPieces n × (g ≡ Number n)
pieces_is g n h =
    let r = counted (λ m. nat_le 1 m && nat_le m 9999) g n h in
    let p = and_parts _ _ r.0 in
    ((leb-true _ _ p.0, leb-true _ _ p.1), r.1)

pub tenths_is : (g : FieldValue) (n : ℕ) → tenths_in g ≡ Some n → IsTenths n × (g ≡ Number n)
tenths_is g n h = let r = counted (λ m. nat_le m 99_999_990) g n h in (leb-true _ _ r.0, r.1)

pub counted_is : (g : FieldValue) (n : ℕ) → counted_in g ≡ Some n → IsCount n × (g ≡ Number n)
counted_is g n h = let r = counted (λ m. nat_le m 9999) g n h in (leb-true _ _ r.0, r.1)

pub count_is : (g : FieldValue) (n : ℕ) → count_in g ≡ Some n → (n ≤ 9_999_999) × (g ≡ Number n)
count_is g n h = let r = counted (λ m. nat_le m 9_999_999) g n h in (leb-true _ _ r.0, r.1)

ok_is : (r : Result ℕ AwbFault) (w : ℕ) → result_ok r ≡ Some w → r ≡ Ok w
ok_is (Ok v) w h = ap (λ (x : ℕ). Ok x) (some_is v w h)
ok_is (Err fault) w h = cc h

pub awb_is : (g : FieldValue) (w : ℕ) → awb_in g ≡ Some w → IsNumber w × (g ≡ number w)
awb_is g w h =
    let r = from_text awb_of g w h in
    let spelled = number_takes r.text w (by (length r.text == 12) r.text w r.read) in
    (spelled.0, r.is_text ∙ ap Text spelled.1)
  where
    by : (b : Bool) (text : List ℕ) (w : ℕ) → (where_true b text >>= λ bytes. result_ok (number_of bytes)) ≡ Some w → number_of text ≡ Ok w
    by true text w h = ok_is (number_of text) w h
    by false text w h = cc h

digits_are : (width : ℕ) (g : FieldValue) (n : ℕ) → digits_in width g ≡ Some n → (n < 10 ^ width) × (g ≡ Text (padded width n))
digits_are width g n h =
    let r = from_text (digits_of width) g n h in
    let p = passed ((length r.text == width) && list_all is_digit r.text) (decimal_value r.text) n r.read in
    let t = and_parts _ _ p.0 in
    let long : length r.text ≡ width = eqb-true _ _ t.0 in
    let again : padded width n ≡ r.text = ap (λ k. padded k n) (sym long) ∙ ap (padded (length r.text)) (sym p.1) ∙ padded-decimal_value r.text t.1 in
    (subst (λ k. n < 10 ^ k) long (subst (λ v. v < 10 ^ length r.text) p.1 (decimal_value_bound r.text t.1)), r.is_text ∙ ap Text (sym again))

pub record IsRunValues (prefix serial count : FieldValue) (run : Run) : Type 0 where
  pub range : IsRun run
  pub prefix_is : prefix ≡ prefix_text run
  pub serial_is : serial ≡ serial_text run
  pub count_is : count ≡ Number run.count

pub run_is : (a b c : FieldValue) (run : Run) → run_in a b c ≡ Some run → IsRunValues a b c run
run_is a b c run h =
    reads (digits_are 3 a) (λ prefix p. reads (digits_are 7 b) (λ serial s. reads (count_is c) (λ _ n h.
    let small : serial < 10_000_000 = omega (arith, s.0) in
    subst (IsRunValues a b c) (some_is _ run h) (record {
      range = (key_in_range prefix serial (omega (arith, p.0)) small, n.0);
      prefix_is = p.1 ∙ ap (λ x. Text (padded 3 x)) (sym (prefix_of-key prefix serial small));
      serial_is = s.1 ∙ ap (λ x. Text (padded 7 x)) (sym (serial_of-key prefix serial small));
      count_is = n.1;
    })))) h

pub record IsFlightValues (a b : FieldValue) (f : FlightDate) : Type 0 where
  pub day_is : IsMomentDay f.day
  pub flight_is : a ≡ flight f
  pub date_is : b ≡ day f

pub flight_date_is : (a b : FieldValue) (f : FlightDate) → flight_date_in a b ≡ Some f → IsFlightValues a b f
flight_date_is a b f h =
    reads (flight_is a) (λ _ flight. reads (from_text day_of b) (λ d t h.
    let day = day_is t.text d t.read in
    subst (IsFlightValues a b) (some_is _ f h) (record { day_is = day.in_range; flight_is = flight; date_is = t.is_text ∙ ap Text day.written }))) h

-- ---- what a field holds is read again

pub awb_again : (w : ℕ) → IsNumber w → awb_in (number w) ≡ Some w
awb_again w h = ap (λ (r : Result ℕ AwbFault). result_ok r) (number_again w h)

pub airport_again : (t : List ℕ) → IsAirport t → airport_in (Text t) ≡ Some t
airport_again t h = passes (is_airport t) t h

pub airline_again : (t : List ℕ) → IsTrue (is_carrier t) → airline_in (Text t) ≡ Some t
airline_again t h = passes (is_carrier t) t h

pub name_again : (t : List ℕ) → IsTrue (is_name t) → name_in (Text t) ≡ Some t
name_again t h = passes (is_name t) t h

pub goods_again : (t : List ℕ) → IsTrue (is_goods t) → goods_in (Text t) ≡ Some t
goods_again t h = passes (is_goods t) t h

pub agent_again : (t : List ℕ) → IsTrue (is_agent_code t) → agent_in (Text t) ≡ Some t
agent_again t h = passes (is_agent_code t) t h

pub pieces_again : (n : ℕ) → IsPieces n → pieces_in (Number n) ≡ Some n
pieces_again n h = passes (nat_le 1 n && nat_le n 9999) n (and_from _ _ (le-leb _ _ h.0) (le-leb _ _ h.1))

pub tenths_again : (n : ℕ) → IsTenths n → tenths_in (Number n) ≡ Some n
tenths_again n h = passes (nat_le n 99_999_990) n (le-leb _ _ h)

pub counted_again : (n : ℕ) → IsCount n → counted_in (Number n) ≡ Some n
counted_again n h = passes (nat_le n 9999) n (le-leb _ _ h)

pub run_again : (run : Run) → IsRun run → run_in (prefix_text run) (serial_text run) (Number run.count) ≡ Some run
run_again run h =
    let p = prefix_of run.first in
    let s = serial_of run.first in
    let prefix : digits_in 3 (prefix_text run) ≡ Some p =
    passes (list_all is_digit (padded 3 p)) (decimal_value (padded 3 p)) (digits-padded 3 p) ∙ ap (λ (n : ℕ). Some n) (decimal_value-padded 3 p (prefix_in_range run.first h.0)) in
    let serial : digits_in 7 (serial_text run) ≡ Some s =
    passes (list_all is_digit (padded 7 s)) (decimal_value (padded 7 s)) (digits-padded 7 s) ∙ ap (λ (n : ℕ). Some n) (decimal_value-padded 7 s (serial_in_range run.first)) in
    let count : count_in (Number run.count) ≡ Some run.count = passes (nat_le run.count 9_999_999) run.count (le-leb _ _ h.1) in
    rw (prefix, serial, count, key_of-parts run.first)

pub flight_date_again : (f : FlightDate) → IsFlightDate f → flight_date_in (flight f) (day f) ≡ Some f
flight_date_again f h = ap (λ (d : Option ℕ). d >>= λ n. Some (record { flight = f.flight; day = n })) (day_again f.day h.1)

pub flight_if_any_again : (f : Option FlightDate) → IfSome f IsFlightDate → flight_if_any_in (flight_if_any f) (day_if_any f) ≡ Some f
flight_if_any_again None h = refl
flight_if_any_again (Some f) h = ap (λ (o : Option FlightDate). o >>= λ x. Some (Some x)) (flight_date_again f h)

-- a text that is no waybill number
-- bytes that are the whole of a text, which has twelve
pub twelve_read : {E : Type 0} (P : E → Type 0) (r : Result (List ℕ) E) (text bytes : List ℕ) → ◌≡◌ {A = Option (List ℕ)} (Some bytes) (result_ok r)
    → MatchResult r (λ y. IsWholeChunk text y 12) P → result_ok (number_of bytes) ≡ awb_of text
twelve_read P (Ok y) text bytes e chunk =
    ap (λ b. result_ok (number_of b)) (some_is bytes y e ∙ chunk.same)
    ∙ sym (ap (λ (o : Option (List ℕ)). o >>= λ b. result_ok (number_of b)) (passes (length text == 12) text (eq-eqb _ _ chunk.long)))
twelve_read P (Err fault) text bytes e chunk = cc e
