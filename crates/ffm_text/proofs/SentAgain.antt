-- The lines of a written manifest are normal lines of what is sent.
use Rattle.ffm_text.proofs.Common.{AreLoads, Bool, CalendarDay, Designator, IfSome, IsCalendarDay, IsCode, IsDesignator, IsLoad, IsPieces, List, Load, None, Ok, Option, ShipmentCode, Some, [], airport_code, amount_text, and_from, and_parts, ap, append-nil, arith, cargo_of, check_digit, code_letter, codes, date_code, date_text, decimal, digits-padded, eqb-true, false, ffm_lines, flight_code, flight_line_text, flight_text, goods_text, is_airport, is_blank, is_digit, is_letter_or_digit, is_printable, is_unread, leb-true, length, length-append, length-map, list_all, load_line, map, nat_le, normal_lines, not, number_text, padded, prefix_of, quantity_text, quantity_unread, refl, route_text, sent_text, serial_of, total_text, true, weight_text, ℕ, ◌%◌, ◌&&◌, ◌*◌, ◌++◌, ◌+◌, ◌/◌, ◌<◌, ◌∙◌, ◌∷◌, ◌≡◌, ◌≤◌}
use Rattle.std.proofs.lemmas.Bool.Decides.{nat_tests}
use Rattle.std.proofs.lemmas.List.Folds.{list_all-append}
use Rattle.imp_fields.specs.Message.{is_goods, ends_in_blank}
use Rattle.imp_fields.proofs.PutLaws.{length_decimal_short, length_decimal_five}
use Rattle.imp_fields.proofs.SentLaws.{IsPlain, ArePlain, sent_normal, plain_line, ends_as_last, ends_in_none}
use Rattle.imp_fields.proofs.WrittenLaws.{all_weaker}
use Rattle.ffm_text.proofs.WrittenLaws.{cargo_line}

-- a line that may be sent, and is short
record IsShort (line : List ℕ) : Type 0 where
  plain : IsPlain line
  short : length line ≤ 55

abbrev AreShort : List (List ℕ) → Type 0
AreShort [] = Unit {0}
AreShort (line ∷ lines) = IsShort line × AreShort lines

are_plain : (lines : List (List ℕ)) → AreShort lines → ArePlain lines
are_plain [] h = tt
are_plain (line ∷ lines) h = (h.0.plain, are_plain lines h.1)

sent_short : (lines : List (List ℕ)) → AreShort lines → length (sent_text lines) ≤ 57 * length lines
sent_short [] h = omega arith
sent_short (line ∷ lines) h =
    let line_short = h.0.short in
    omega (arith, length-append (line ++ (13 ∷ 10 ∷ [])) (sent_text lines), length-append line (13 ∷ 10 ∷ []), line_short, sent_short lines h.1)

short-append : (lines more : List (List ℕ)) → AreShort lines → AreShort more → AreShort (lines ++ more)
short-append [] more g h = h
short-append (line ∷ lines) more g h = (g.0, short-append lines more g.1 h)

-- ---- characters

either_printable : (b : ℕ) → is_letter_or_digit b ≡ true → is_printable b ≡ true
either_printable b h = grind (arith, nat_tests)

either_no_blank : (b : ℕ) → is_letter_or_digit b ≡ true → is_blank b ≡ false
either_no_blank b h = grind (arith, nat_tests)

unread_printable : (b : ℕ) → is_unread b ≡ true → is_printable b ≡ true
unread_printable b h = grind (arith, nat_tests)

unread_no_blank : (b : ℕ) → is_unread b ≡ true → is_blank b ≡ false
unread_no_blank b h = grind (arith, nat_tests)

digit_printable : (b : ℕ) → is_digit b ≡ true → is_printable b ≡ true
digit_printable b h = grind (arith, nat_tests)

both : (p : ℕ → Bool) (a b : List ℕ) → list_all p a ≡ true → list_all p b ≡ true → list_all p (a ++ b) ≡ true
both p a b g h = list_all-append p a b ∙ and_from _ _ g h

code_printable : (limit : ℕ) (text : List ℕ) → IsCode limit text → list_all is_printable text ≡ true
code_printable limit text h = all_weaker is_letter_or_digit is_printable either_printable text h.bytes

airport_length : (a : List ℕ) → is_airport a ≡ true → length a ≡ 3
airport_length a h = eqb-true _ _ (and_parts _ _ h).0

airport_ends : (a : List ℕ) → is_airport a ≡ true → ends_in_blank a ≡ false
airport_ends a h = let three = airport_length a h in ends_in_none is_letter_or_digit either_no_blank a (omega (arith, three)) (airport_code a h).bytes

-- ---- the lines

head_short : IsShort (codes "FFM/8")
head_short = record { plain = plain_line (codes "FFM/8") (omega arith) (omega arith) refl refl; short = omega arith }

last_short : IsShort (codes "LAST")
last_short = record { plain = plain_line (codes "LAST") (omega arith) (omega arith) refl refl; short = omega arith }

airport_short : (a : List ℕ) → is_airport a ≡ true → IsShort a
airport_short a h =
    let three = airport_length a h in
    record { plain = plain_line a (omega (arith, three)) (omega (arith, three)) (code_printable 3 a (airport_code a h)) (airport_ends a h); short = omega (arith, three) }

flight_short : (flight : Designator) (date : CalendarDay) (here : List ℕ) → IsDesignator flight → IsCalendarDay date → is_airport here ≡ true → IsShort (flight_line_text flight date here)
flight_short flight date here f d a =
    let F = flight_text flight in
    let D = date_text date in
    let front = codes "1/" ++ F ++ (47 ∷ []) ++ D ++ (47 ∷ []) in
    let seven = (flight_code flight f).most in
    let five = (date_code date d).1 in
    let three = airport_length here a in
    let long : length front ≤ 16 =
    omega (arith, length-append (codes "1/" ++ F ++ (47 ∷ []) ++ D) (47 ∷ []), length-append (codes "1/" ++ F ++ (47 ∷ [])) D, length-append (codes "1/" ++ F) (47 ∷ []), length-append (codes "1/") F, seven, five) in
    let whole = length-append front here in
    let printable : list_all is_printable front ≡ true =
    both is_printable (codes "1/" ++ F ++ (47 ∷ []) ++ D) (47 ∷ []) (both is_printable (codes "1/" ++ F ++ (47 ∷ [])) D
    (both is_printable (codes "1/" ++ F) (47 ∷ []) (both is_printable (codes "1/") F refl (code_printable 7 F (flight_code flight f))) refl) (code_printable 5 D (date_code date d).0)) refl in
    let ends = ends_as_last front here (omega (arith, three)) ∙ airport_ends here a in
    record {
      plain = plain_line (front ++ here) (omega (arith, whole, three)) (omega (arith, whole, long, three)) (both is_printable front here printable (code_printable 3 here (airport_code here a))) ends;
      short = omega (arith, whole, long, three);
    }

-- the number and the route
route_length : (l : Load) → IsLoad l → length (route_text l) ≡ 19
route_length l h =
    let number : length (number_text l.awb) ≡ 12 = refl in
    let from = airport_length l.origin h.origin in
    let to = airport_length l.destination h.destination in
    omega (arith, length-append (number_text l.awb ++ l.origin ++ l.destination) (47 ∷ []), length-append (number_text l.awb ++ l.origin) l.destination, length-append (number_text l.awb) l.origin, number, from, to)

number_printable : (k : ℕ) → list_all is_printable (number_text k) ≡ true
number_printable k =
    let digits = λ (w n : ℕ). all_weaker is_digit is_printable digit_printable (padded w n) (digits-padded w n) in
    both is_printable (padded 3 (prefix_of k) ++ (45 ∷ []) ++ padded 7 (serial_of k)) (padded 1 (check_digit (serial_of k)))
    (both is_printable (padded 3 (prefix_of k) ++ (45 ∷ [])) (padded 7 (serial_of k)) (both is_printable (padded 3 (prefix_of k)) (45 ∷ []) (digits 3 (prefix_of k)) refl) (digits 7 (serial_of k)))
    (digits 1 (check_digit (serial_of k)))

route_printable : (l : Load) → IsLoad l → list_all is_printable (route_text l) ≡ true
route_printable l h =
    both is_printable (number_text l.awb ++ l.origin ++ l.destination) (47 ∷ [])
    (both is_printable (number_text l.awb ++ l.origin) l.destination
    (both is_printable (number_text l.awb) l.origin (number_printable l.awb) (code_printable 3 l.origin (airport_code l.origin h.origin))) (code_printable 3 l.destination (airport_code l.destination h.destination)))
    refl

-- the quantity
total_length : (total : Option ℕ) → IfSome total IsPieces → length (total_text total) ≤ 5
total_length None h = omega arith
total_length (Some n) h = let four = length_decimal_short n h.1 in omega (arith, four)

amount_length : (code : ShipmentCode) (pieces tenths : ℕ) (total : Option ℕ) → IsPieces pieces → tenths ≤ 999_999 → IfSome total IsPieces
    → (0 < length (quantity_text code pieces tenths total)) × (length (quantity_text code pieces tenths total) ≤ 18)
amount_length code pieces tenths total p t o =
    let front = code_letter code ∷ decimal pieces in
    let weight = 75 ∷ weight_text tenths in
    let four = length_decimal_short pieces p.1 in
    let five = length_decimal_five (tenths / 10) (omega (arith, t)) in
    let last = total_length total o in
    let whole = length-append (front ++ weight) (total_text total) in
    let joined = length-append front weight in
    let kilograms = length-append (decimal (tenths / 10) ++ (46 ∷ [])) ((48 + tenths % 10) ∷ []) in
    let point = length-append (decimal (tenths / 10)) (46 ∷ []) in
    (omega (arith, whole, joined), omega (arith, whole, joined, kilograms, point, four, five, last))

-- the goods
goods_short : (goods : List ℕ) → is_goods goods ≡ true → (length (goods_text goods) ≤ 16) × (list_all is_printable (goods_text goods) ≡ true)
goods_short [] h = (omega arith, refl)
goods_short (b ∷ goods) h =
    let parts = and_parts (nat_le (length (b ∷ goods)) 15 && list_all is_printable (b ∷ goods)) (not (ends_in_blank (b ∷ goods))) h in
    let front = and_parts (nat_le (length (b ∷ goods)) 15) (list_all is_printable (b ∷ goods)) parts.0 in
    let most : length (b ∷ goods) ≤ 15 = leb-true (length (b ∷ goods)) 15 front.0 in
    (omega (arith, most), and_from _ _ refl front.1)

no_not : (b : Bool) → not b ≡ true → b ≡ false
no_not true h = absurd cc
no_not false h = refl

line_ends : (front goods : List ℕ) → 0 < length front → ends_in_blank front ≡ false → is_goods goods ≡ true → ends_in_blank (front ++ goods_text goods) ≡ false
line_ends front [] some blank h = ap ends_in_blank (append-nil front) ∙ blank
line_ends front (b ∷ goods) some blank h =
    ends_as_last front (47 ∷ b ∷ goods) (omega arith) ∙ ends_as_last (47 ∷ []) (b ∷ goods) (omega arith) ∙ no_not _ (and_parts _ _ h).1

load_short : (l : Load) → IsLoad l → IsShort (load_line l)
load_short l h =
    let written = (cargo_line l h).3 in
    let route = route_text l in
    let amount = amount_text l in
    let sized = amount_length (cargo_of l).code l.pieces l.tenths (cargo_of l).total written.0 written.1 written.2 in
    let unread = quantity_unread (cargo_of l).code l.pieces l.tenths (cargo_of l).total written in
    let goods = goods_short l.goods h.goods in
    let ends = ends_as_last route amount sized.0 ∙ ends_in_none is_unread unread_no_blank amount sized.0 unread in
    let front_length = length-append route amount in
    let whole = length-append (route ++ amount) (goods_text l.goods) in
    let route_is = route_length l h in
    let some : 0 < length (route ++ amount) = omega (arith, front_length, route_is) in
    let short : length (load_line l) ≤ 55 = omega (arith, whole, front_length, route_is, sized.1, goods.0) in
    record {
      plain = plain_line (load_line l) (omega (arith, whole, front_length, route_is)) (omega (arith, short))
          (both is_printable (route ++ amount) (goods_text l.goods) (both is_printable route amount (route_printable l h) (all_weaker is_unread is_printable unread_printable amount unread)) goods.1)
          (line_ends (route ++ amount) l.goods some ends h.goods);
      short = short;
    }

loads_short : (loads : List Load) → AreLoads loads → AreShort (map load_line loads)
loads_short [] h = tt
loads_short (l ∷ loads) h = (load_short l h.0, loads_short loads h.1)

pub sent_again : (flight : Designator) (date : CalendarDay) (here unload : List ℕ) (loads : List Load) → IsDesignator flight → IsCalendarDay date → is_airport here ≡ true → is_airport unload ≡ true → AreLoads loads
    → length loads ≤ 500 → normal_lines (sent_text (ffm_lines flight date here unload loads)) ≡ Ok (ffm_lines flight date here unload loads)
sent_again flight date here unload loads f d a u h few =
    let lines = ffm_lines flight date here unload loads in
    let below = (flight_line_text flight date here ∷ unload ∷ map load_line loads) ++ codes "LAST" ∷ [] in
    let short : AreShort lines =
    short-append (codes "FFM/8" ∷ flight_line_text flight date here ∷ unload ∷ map load_line loads) (codes "LAST" ∷ [])
    (head_short, (flight_short flight date here f d a, (airport_short unload u, loads_short loads h))) (last_short, tt) in
    let count : length lines ≡ length loads + 4 =
    omega (arith, length-append (codes "FFM/8" ∷ flight_line_text flight date here ∷ unload ∷ map load_line loads) (codes "LAST" ∷ []), length-map loads load_line) in
    let sent = sent_short lines short in
    sent_normal (codes "FFM/8") below (are_plain lines short) refl (omega (arith, count, few)) (omega (arith, count, few, sent))
