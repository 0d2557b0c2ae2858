-- Values within range make rows within range.
use Rattle.row_codec.proofs.Common.{Bool, Declared, ExpectedKey, FlightKey, IfSome, IsBookTenths, IsMomentDay, IsPartNumber, IsPieces, IsTrue, List, None, Option, Outbound, Part, Some, and_from, arith, expected_row, false, flag, int_eq, ints, is_airport, is_count, is_day, is_designator, is_expected_key, is_expected_row, is_flag, is_flight_key, is_flight_row, is_line, is_number, is_part_row, is_since, is_trail_row, is_utf8, is_waybill_row, is_within, line_row, outbound_row, part_key, pos, refl, since_column, suc, sym, true, true≢false, waybill_row, zero, ℕ, ◌<◌, ◌≡◌, ◌≤◌}
use Rattle.awb_number.specs.Number.{IsNumber}
use Rattle.imp_fields.specs.Message.{is_goods}
use Rattle.shipment_machine.specs.declared.moves.Expected.{Expected}
use Rattle.row_codec.proofs.FlightKeys.{written_reads}

pub within : (low high n : ℕ) → low ≤ n → n ≤ high → is_within low high (pos n) ≡ true
within low high n above below = grind (arith, ints)

pub number_fits : (w : ℕ) → IsNumber w → is_number (pos w) ≡ true
number_fits w low = within 0 9_999_999_999 w (omega arith) (omega (arith, low))

pub day_fits : (day : ℕ) → IsMomentDay day → is_day (pos day) ≡ true
day_fits day h = within 10957 47481 day h.0 h.1

pub count_fits : (n : ℕ) → n < 4_294_967_296 → is_count (pos n) ≡ true
count_fits n low = within 0 4_294_967_295 n (omega arith) (omega (arith, low))

pub pieces_fit : (n : ℕ) → IsPieces n → is_within 1 9999 (pos n) ≡ true
pieces_fit n h = within 1 9999 n h.0 h.1

pub tenths_fit : (n : ℕ) → IsBookTenths n → is_within 0 999_999 (pos n) ≡ true
tenths_fit n h = within 0 999_999 n (omega arith) h

flag_fits : (set : Bool) → is_flag (flag set) ≡ true
flag_fits true = refl
flag_fits false = refl

pub not_zero : (n : ℕ) → int_eq (pos (suc n)) (pos 0) ≡ false
not_zero n = grind (arith, ints)

-- a day of a moment has its own column
pub day_column : (n : ℕ) → IsTrue (is_day (pos n)) → since_column (Some n) ≡ pos n
day_column zero is = absurd (true≢false (sym is))
day_column (suc n) is = refl

pub since_fits : (o : Option ℕ) → IfSome o (λ n. IsTrue (is_day (pos n))) → IsTrue (is_since (since_column o))
since_fits None is = refl
since_fits (Some zero) is = absurd (true≢false (sym is))
since_fits (Some (suc n)) is = rw (not_zero n) is

pub waybill_fits : (w : ℕ) (d : Declared) → IsNumber w → IsTrue (is_airport d.origin) → IsTrue (is_airport d.destination) → IsPieces d.pieces → IsBookTenths d.tenths → IsTrue (is_goods d.goods)
    → IsTrue (is_since (since_column d.since)) → IsTrue (is_waybill_row (waybill_row w d))
waybill_fits w d number origin destination pieces tenths goods since =
    and_from _ _ (and_from _ _ (and_from _ _ (and_from _ _ (and_from _ _ (and_from _ _ (and_from _ _ (number_fits w number) origin) destination) (pieces_fit d.pieces pieces)) (tenths_fit d.tenths tenths)) goods) (flag_fits d.notified)) since

pub outbound_fits : (key : FlightKey) (o : Outbound) → IsTrue (is_flight_key key) → IsTrue (is_airport o.unload) → IsTrue (is_flight_row (key, outbound_row o))
outbound_fits key o is unload = and_from _ _ (and_from _ _ is unload) (flag_fits o.closed)

pub expected_fits : (key : ExpectedKey) (e : Expected) → IsTrue (is_expected_key key) → IsPieces e.pieces → IsBookTenths e.tenths → IsTrue (is_expected_row (key, expected_row e))
expected_fits key e is pieces tenths = and_from _ _ (and_from _ _ (and_from _ _ is (pieces_fit e.pieces pieces)) (tenths_fit e.tenths tenths)) (flag_fits e.checked)

pub part_fits : (p : Part) → IsTrue (is_designator p.flight.flight) → IsTrue (is_day (pos p.flight.day)) → IsTrue (is_airport p.airport) → IsPartNumber p.number → (telegram : List ℕ)
    → IsTrue (is_utf8 telegram) → IsTrue (is_part_row (part_key p, telegram))
part_fits p is day airport number telegram text = and_from _ _ (and_from _ _ (and_from _ _ (and_from _ _ (written_reads p.flight.flight is) day) airport) (within 1 9999 p.number number.0 number.1)) text

pub line_fits : (n w : ℕ) (line : List ℕ) → IsTrue (is_number (pos w)) → IsTrue (is_line line) → IsTrue (is_trail_row (line_row n w line))
line_fits n w line number is = and_from _ _ number is
