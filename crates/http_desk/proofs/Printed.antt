-- What is printed is read as it was.
use Rattle.std.proofs.Common.{arith, ◌≡◌, ◌∙◌, ap, sym, refl, ℕ, ◌+◌, ◌-◌, ◌*◌, ◌/◌, ◌%◌, ◌<◌, ◌≤◌, ◌^◌, Bool, true, false, Some, None, Option, List, [], ◌∷◌, ◌++◌, length, take, drop, codes, decimal, length-append, append_assoc, take-append-drop}
use Rattle.http_desk.proofs.Common.{HasPath, IsListed, IsNumber, IsPage, IsPathOf, Place, Posted, and_from, and_parts, asked_place, bytes_eq, bytes_eq-true, check_digit, date_on, decimal_by_steps, decimal_nonempty, decimal_value, decimal_value-last, digit_glyph, digits-padded, drop-append_seam, flight_on, gets, got_history, got_holder, got_report, got_waybill, if◌then◌else◌, in_form, is_ascii_graphic, is_digit, is_json, is_key, is_letter_or_digit, is_number, is_path_byte, is_slash, is_unescaped, joined, key_segment, le-leb, leb-true, length-decimal-le, length-padded, list_all, list_all-append, listing_path, lt-ltb, nat_le, nat_lt, nat_tests, not, number_text, number_told, numbered_rows, of_every, option_and_then, option_map, padded, page_at, page_named, page_part, page_word, path_text, posted_check, posted_command, posted_look, posted_telegram, posts, prefix_of, result_ok, row_number, rows_at, rows_named, rows_part, rows_path, rows_segments, rows_word, segments, serial_of, take-append_seam, waybill_rows, where_true, year_of, ◌&&◌, ◌==◌}
use Rattle.awb_number.proofs.NumberLaws.{number_again}
use Rattle.agent_stock.specs.Fields.{is_agent_code}
use Rattle.imp_fields.specs.Fields.{Designator, flight_text, IsDesignator}
use Rattle.imp_fields.proofs.FieldLaws.{flight_again, flight_code}
use Rattle.imp_fields.proofs.WrittenLaws.{decimal_digits}
use Rattle.station_days.specs.Date.{day_line}
use Rattle.reports.specs.declared.layout.Form.{Form}
use Rattle.reports.specs.declared.layout.Form.TheVariants as form
use Rattle.reports.specs.declared.report.Listing.{Listing}
use Rattle.reports.specs.declared.report.Listing.TheVariants as listing
use Rattle.reports.specs.declared.report.Report.TheVariants as report
use Rattle.http_desk.proofs.KeyPrinted.{key_again, segment_all, segment_few}
use Rattle.http_desk.proofs.Paths.{page_there, place_is}
use Rattle.http_desk.proofs.Segments.{all_weaker, at_three, at_two, is_path_good, is_segment, is_segment_byte, join, no_slash, parted, plain, whole}
use Rattle.http_desk.specs.Request.{flight_date, flight_part, flight_rows}
use Rattle.desk_commands.specs.Command.{day_of}
use Rattle.shipment_machine.specs.declared.flight.FlightDate.{FlightDate}

-- The bytes of a path.

graphic_good : (b : ℕ) → is_path_good b ≡ true → is_ascii_graphic b ≡ true
graphic_good b h = (and_parts (is_ascii_graphic b) (not (b == 46) && not (b == 63)) h).0

path_good : (b : ℕ) → is_path_good b ≡ true → is_path_byte b ≡ true
path_good b h = grind (arith, nat_tests, h)

segment_good : (s : List ℕ) → is_segment s ≡ true → list_all is_path_good s ≡ true
segment_good s h =
    all_weaker is_segment_byte is_path_good (λ b h. (and_parts (is_path_good b) (not (is_slash b)) h).0) s
    (and_parts (nat_le (length s) 20) (list_all is_segment_byte s) h).1

joined_good : (segs : List (List ℕ)) → list_all is_segment segs ≡ true → list_all is_path_good (joined segs) ≡ true
joined_good [] all = refl
joined_good (s ∷ []) all = segment_good s (and_parts (is_segment s) true all).0
joined_good (s ∷ t ∷ more) all =
    let parts = and_parts (is_segment s) (list_all is_segment (t ∷ more)) all in
    join is_path_good s (joined (t ∷ more)) (segment_good s parts.0) (joined_good (t ∷ more) parts.1)

segment_len : (s : List ℕ) → is_segment s ≡ true → length s ≤ 20
segment_len s h = leb-true (length s) 20 (and_parts (nat_le (length s) 20) (list_all is_segment_byte s) h).0

joined_len : (segs : List (List ℕ)) → list_all is_segment segs ≡ true → length (joined segs) ≤ 21 * length segs
joined_len [] all = omega arith
joined_len (s ∷ []) all = omega (arith, segment_len s (and_parts (is_segment s) true all).0)
joined_len (s ∷ t ∷ more) all =
    let parts = and_parts (is_segment s) (list_all is_segment (t ∷ more)) all in
    omega (arith, segment_len s parts.0, joined_len (t ∷ more) parts.1, length-append s (joined (t ∷ more)))

-- A text without a dot isn't in JSON's form, and `.json` makes it that.

no_dot : (path : List ℕ) → list_all is_path_good path ≡ true → is_json path ≡ false
no_dot path all = by (is_json path) refl
  where
    by : (v : Bool) → is_json path ≡ v → v ≡ false
    by true e =
        let n = length path - 5 in
        let back : list_all is_path_good (drop n path) ≡ true = (and_parts (list_all is_path_good (take n path)) (list_all is_path_good (drop n path))
        (sym (list_all-append is_path_good (take n path) (drop n path)) ∙ ap (list_all is_path_good) (take-append-drop n path) ∙ all)).1 in
        let wrong : false ≡ true = sym (ap (list_all is_path_good) (bytes_eq-true (drop n path) (codes ".json") e)) ∙ back in
        cc wrong
    by false e = refl

json_len : (path : List ℕ) → length (path ++ codes ".json") - 5 ≡ length path
json_len path = omega (arith, length-append path (codes ".json"))

json_end : (path : List ℕ) → is_json (path ++ codes ".json") ≡ true
json_end path =
    ap (λ (n : ℕ). bytes_eq (drop n (path ++ codes ".json")) (codes ".json")) (json_len path)
    ∙ ap (λ (t : List ℕ). bytes_eq t (codes ".json")) (drop-append_seam path (codes ".json"))

json_front : (path : List ℕ) → take (length (path ++ codes ".json") - 5) (path ++ codes ".json") ≡ path
json_front path = ap (λ (n : ℕ). take n (path ++ codes ".json")) (json_len path) ∙ take-append_seam path (codes ".json")

-- The path of a page.

page_path : (place : Place) → list_all is_segment (segments place) ≡ true → length (segments place) ≤ 3 → IsPage place → HasPath place
page_path place all few is =
    let path = path_text (segments place) in
    let good : list_all is_path_good path ≡ true = joined_good (segments place) all in
    record {
      graphic = all_weaker is_path_good is_ascii_graphic graphic_good path good;
      some = omega arith;
      few = omega (arith, few, joined_len (segments place) all);
      leads = place_is path (all_weaker is_path_good is_path_byte path_good path good) ∙ ap (λ o. asked_place o path) (page_there place is);
    }

word_good : (p : Posted) → list_all is_segment (segments (posts p)) ≡ true
word_good (posted_command v) = of_every (λ v. list_all is_segment (segments (posts (posted_command v)))) refl v
word_good (posted_check v) = of_every (λ v. list_all is_segment (segments (posts (posted_check v)))) refl v
word_good posted_telegram = refl
word_good posted_look = refl

two_few : (p : Posted) → length (segments (posts p)) ≤ 3
two_few (posted_command v) = omega arith
two_few (posted_check v) = omega arith
two_few posted_telegram = omega arith
two_few posted_look = omega arith

pub posted_path : (p : Posted) → HasPath (posts p)
posted_path p = page_path (posts p) (word_good p) (two_few p) tt

-- The texts of arguments are segments.

segment_of : (s : List ℕ) → length s ≤ 20 → list_all is_segment_byte s ≡ true → is_segment s ≡ true
segment_of s few all = and_from _ _ (le-leb (length s) 20 few) all

digit_good : (b : ℕ) → is_digit b ≡ true → is_segment_byte b ≡ true
digit_good b h = grind (arith, nat_tests)

code_good : (b : ℕ) → is_letter_or_digit b ≡ true → is_segment_byte b ≡ true
code_good b h = grind (arith, nat_tests)

padded_good : (width n : ℕ) → list_all is_segment_byte (padded width n) ≡ true
padded_good width n = all_weaker is_digit is_segment_byte digit_good (padded width n) (digits-padded width n)

number_good : (w : ℕ) → is_segment (number_text w) ≡ true
number_good w =
    let front = padded 3 (prefix_of w) ++ (45 ∷ []) in
    let back = padded 1 (check_digit (serial_of w)) in
    segment_of (number_text w)
    (omega (
      arith,
      length-append (front ++ padded 7 (serial_of w)) back,
      length-append front (padded 7 (serial_of w)),
      length-append (padded 3 (prefix_of w)) (45 ∷ []),
      length-padded 3 (prefix_of w),
      length-padded 7 (serial_of w),
      length-padded 1 (check_digit (serial_of w)),
    ))
    (join is_segment_byte (front ++ padded 7 (serial_of w)) back
    (join is_segment_byte front (padded 7 (serial_of w)) (join is_segment_byte (padded 3 (prefix_of w)) (45 ∷ []) (padded_good 3 (prefix_of w)) refl) (padded_good 7 (serial_of w)))
    (padded_good 1 (check_digit (serial_of w))))

number_some : (w : ℕ) → 0 < length (number_text w)
number_some w =
    omega (arith, length-append (padded 3 (prefix_of w) ++ (45 ∷ []) ++ padded 7 (serial_of w)) (padded 1 (check_digit (serial_of w))), length-padded 1 (check_digit (serial_of w)))

pub waybill_path : (w : ℕ) → HasPath (gets (got_waybill (number_text w)))
waybill_path w =
    page_path (gets (got_waybill (number_text w))) (and_from _ _ (number_good w) refl) (omega arith) (number_some w, no_slash (number_text w) (plain (number_text w) (number_good w)))

pub history_path : (w : ℕ) → HasPath (gets (got_history (number_text w)))
history_path w =
    page_path (gets (got_history (number_text w))) (and_from _ _ refl (and_from _ _ (number_good w) refl)) (omega arith) (number_some w, no_slash (number_text w) (plain (number_text w) (number_good w)))

pub holder_path : (w : ℕ) → HasPath (gets (got_holder (number_text w)))
holder_path w =
    page_path (gets (got_holder (number_text w))) (and_from _ _ (number_good w) refl) (omega arith) (number_some w, no_slash (number_text w) (plain (number_text w) (number_good w)))

row_good : (n : ℕ) → n < 2 ^ 32 → is_segment (decimal n) ≡ true
row_good n lt =
    let wide : n < 2 ^ 64 = omega (arith, lt) in
    segment_of (decimal n) (length-decimal-le 20 n (omega arith) (omega (arith, lt)) wide) (all_weaker is_digit is_segment_byte digit_good (decimal n) (decimal_digits n wide))

agent_good : (code : List ℕ) → is_agent_code code ≡ true → is_segment code ≡ true
agent_good code is =
    let parts = and_parts (nat_le 1 (length code) && nat_le (length code) 11) (list_all is_letter_or_digit code) is in
    let most : length code ≤ 11 = leb-true (length code) 11 (and_parts (nat_le 1 (length code)) (nat_le (length code) 11) parts.0).1 in
    segment_of code (omega (arith, most)) (all_weaker is_letter_or_digit is_segment_byte code_good code parts.1)

flight_good : (f : Designator) → IsDesignator f → is_segment (flight_text f) ≡ true
flight_good f range =
    let code = flight_code f range in
    segment_of (flight_text f) (omega (arith, code.most)) (all_weaker is_letter_or_digit is_segment_byte code_good (flight_text f) code.bytes)

day_good : (d : ℕ) → is_segment (day_line d) ≡ true
unfolding day_line
day_good d =
    let year = padded 4 (year_of d) ++ (45 ∷ []) in
    let month = year ++ padded 2 (date_on d).month in
    segment_of (day_line d)
    (omega (
      arith,
      length-append (month ++ (45 ∷ [])) (padded 2 (date_on d).day),
      length-append month (45 ∷ []),
      length-append year (padded 2 (date_on d).month),
      length-append (padded 4 (year_of d)) (45 ∷ []),
      length-padded 4 (year_of d),
      length-padded 2 (date_on d).month,
      length-padded 2 (date_on d).day,
    ))
    (join is_segment_byte (month ++ (45 ∷ [])) (padded 2 (date_on d).day)
    (join is_segment_byte month (45 ∷ []) (join is_segment_byte year (padded 2 (date_on d).month) (join is_segment_byte (padded 4 (year_of d)) (45 ∷ []) (padded_good 4 (year_of d)) refl) (padded_good 2 (date_on d).month)) refl)
    (padded_good 2 (date_on d).day))

-- A row's number is read back.

pub record Writes (n : ℕ) (ds : List ℕ) : Type 0 where
  pub value : decimal_value ds ≡ n

pub writes : (n : ℕ) → n < 2 ^ 64 → Writes n (decimal n)
writes n lt = decimal_by_steps Writes one more n lt
  where
    one : (m : ℕ) → m < 10 → Writes m ((48 + m) ∷ [])
    one m low = record { value = omega arith }

    more : (m : ℕ) (ds : List ℕ) → 10 ≤ m → Writes (m / 10) ds → Writes m (ds ++ ((48 + m % 10) ∷ []))
    more m ds high h = record {
      value = let v = decimal_value-last ds (48 + m % 10) in let w = h.value in omega (arith, v, w);
    }

row_again : (n : ℕ) → n < 2 ^ 32 → row_number (decimal n) ≡ Some n
row_again n lt =
    let wide : n < 2 ^ 64 = omega (arith, lt) in
    let few : length (decimal n) ≤ 10 = length-decimal-le 10 n (omega arith) (omega (arith, lt)) wide in
    let some : 1 ≤ length (decimal n) = decimal_nonempty n wide in
    let is : is_number (decimal n) ≡ true = and_from _ _ (and_from _ _ (le-leb 1 (length (decimal n)) some) (le-leb (length (decimal n)) 10 few)) (decimal_digits n wide) in
    let told : number_told (decimal n) ≡ Some n = ap (λ (t : Bool). where_true t (decimal_value (decimal n))) is ∙ ap (λ (m : ℕ). Some m) (writes n wide).value in
    ap (λ (o : Option ℕ). option_and_then (λ (m : ℕ). where_true (nat_lt m (2 ^ 32)) m) o) told ∙ ap (λ (t : Bool). where_true t n) (lt-ltb n (2 ^ 32) lt)

-- The path of rows.

record ArePrinted (l : Listing) : Type 0 where
  good : list_all is_path_good (listing_path l) ≡ true
  few : length (listing_path l) ≤ 135
  rows : rows_at (listing_path l) ≡ Some l
  page : page_at (listing_path l) ≡ None
  json_page : page_at (listing_path l ++ codes ".json") ≡ None

three : (a b c : List ℕ) (l : Listing) → rows_segments l ≡ a ∷ b ∷ c ∷ [] → is_segment a ≡ true → is_segment b ≡ true → is_segment c ≡ true → rows_part a b c ≡ Some l → page_part a b c ≡ None → page_part a b (c ++ codes ".json") ≡ None → ArePrinted l
three a b c l is first second third rows page json_page =
    let at = plain a first in
    let mid = plain b second in
    let all : list_all is_segment (a ∷ b ∷ c ∷ []) ≡ true = and_from _ _ first (and_from _ _ second (and_from _ _ third refl)) in
    let back : (a ++ 47 ∷ (b ++ 47 ∷ c)) ++ codes ".json" ≡ a ++ 47 ∷ (b ++ 47 ∷ (c ++ codes ".json")) =
    append_assoc a (47 ∷ (b ++ 47 ∷ c)) (codes ".json") ∙ ap (λ (t : List ℕ). a ++ 47 ∷ t) (append_assoc b (47 ∷ c) (codes ".json")) in
    record {
      good = ap (λ s. list_all is_path_good (path_text s)) is ∙ joined_good (a ∷ b ∷ c ∷ []) all;
      few = omega (arith, ap (λ s. length (path_text s)) is, joined_len (a ∷ b ∷ c ∷ []) all);
      rows = ap (λ s. rows_at (path_text s)) is ∙ at_three rows_word rows_named rows_part a b c at mid ∙ rows;
      page = ap (λ s. page_at (path_text s)) is ∙ at_three page_word page_named page_part a b c at mid ∙ page;
      json_page = ap (λ s. page_at (path_text s ++ codes ".json")) is
          ∙ ap (λ (t : List ℕ). page_at (codes "/v1/" ++ t)) back
          ∙ at_three page_word page_named page_part a b (c ++ codes ".json") at mid ∙ json_page;
    }

-- what isn't the page of a history
not_waybills : (a b c : List ℕ) → bytes_eq a (codes "waybills") ≡ false → page_part a b c ≡ None
not_waybills a b c other =
    ap (λ (v : Bool). if v && (bytes_eq c (codes "history") && nat_lt 0 (length b)) then Some (gets (got_history b)) else None) other

not_history : (b c : List ℕ) → bytes_eq c (codes "history") ≡ false → page_part (codes "waybills") b c ≡ None
not_history b c other = ap (λ (v : Bool). if v && nat_lt 0 (length b) then Some (gets (got_history b)) else None) other

other_kind : (a b c : List ℕ) (l : Listing) → bytes_eq a (codes "waybills") ≡ false → rows_segments l ≡ a ∷ b ∷ c ∷ [] → is_segment a ≡ true → is_segment b ≡ true → is_segment c ≡ true → rows_part a b c ≡ Some l → ArePrinted l
other_kind a b c l other is first second third rows =
    three a b c l is first second third rows (not_waybills a b c other) (not_waybills a b (c ++ codes ".json") other)

-- the path of a part of a flight
four : (a b c d : List ℕ) (l : Listing) → bytes_eq a (codes "waybills") ≡ false → rows_segments l ≡ a ∷ b ∷ c ∷ d ∷ [] → is_segment a ≡ true → is_segment b ≡ true → is_segment c ≡ true → is_segment d ≡ true → rows_part a b (c ++ 47 ∷ d) ≡ Some l → ArePrinted l
four a b c d l other is first second third fourth rows =
    let at = plain a first in
    let mid = plain b second in
    let rest : List ℕ = c ++ 47 ∷ d in
    let all : list_all is_segment (a ∷ b ∷ c ∷ d ∷ []) ≡ true = and_from _ _ first (and_from _ _ second (and_from _ _ third (and_from _ _ fourth refl))) in
    let back : (a ++ 47 ∷ (b ++ 47 ∷ rest)) ++ codes ".json" ≡ a ++ 47 ∷ (b ++ 47 ∷ (rest ++ codes ".json")) =
    append_assoc a (47 ∷ (b ++ 47 ∷ rest)) (codes ".json") ∙ ap (λ (t : List ℕ). a ++ 47 ∷ t) (append_assoc b (47 ∷ rest) (codes ".json")) in
    record {
      good = ap (λ s. list_all is_path_good (path_text s)) is ∙ joined_good (a ∷ b ∷ c ∷ d ∷ []) all;
      few = omega (arith, ap (λ s. length (path_text s)) is, joined_len (a ∷ b ∷ c ∷ d ∷ []) all);
      rows = ap (λ s. rows_at (path_text s)) is ∙ at_three rows_word rows_named rows_part a b rest at mid ∙ rows;
      page = ap (λ s. page_at (path_text s)) is ∙ at_three page_word page_named page_part a b rest at mid ∙ not_waybills a b rest other;
      json_page = ap (λ s. page_at (path_text s ++ codes ".json")) is
          ∙ ap (λ (t : List ℕ). page_at (codes "/v1/" ++ t)) back
          ∙ at_three page_word page_named page_part a b (rest ++ codes ".json") at mid ∙ not_waybills a b (rest ++ codes ".json") other;
    }

-- a flight and its day are read back
flight_there : (make : FlightDate → Listing) (f : FlightDate) → IsDesignator f.flight → day_of (day_line f.day) ≡ Some f.day → option_map make (flight_date (flight_text f.flight) (day_line f.day)) ≡ Some (make f)
flight_there make f range day =
    ap (λ (o : Option Designator). option_map make (option_and_then (flight_on (day_line f.day)) o)) (flight_again f.flight range)
    ∙ ap (λ (o : Option ℕ). option_map make (option_map (λ (d : ℕ). record { flight = f.flight; day = d }) o)) day

numbered : (a b : List ℕ) (l : Listing) (n : ℕ) → n < 2 ^ 32 → bytes_eq a (codes "waybills") ≡ false → rows_segments l ≡ a ∷ b ∷ decimal n ∷ [] → is_segment a ≡ true → is_segment b ≡ true
    → rows_part a b (decimal n) ≡ option_and_then (numbered_rows a b) (row_number (decimal n)) → numbered_rows a b n ≡ Some l → ArePrinted l
numbered a b l n lt other is first second part rows =
    other_kind a b (decimal n) l other is first second (row_good n lt) (part ∙ ap (option_and_then (numbered_rows a b)) (row_again n lt) ∙ rows)

of_waybill : (part : List ℕ) (l : Listing) (w : ℕ) → IsNumber w → rows_segments l ≡ codes "waybills" ∷ number_text w ∷ part ∷ [] → is_segment part ≡ true → waybill_rows part w ≡ Some l
    → bytes_eq part (codes "history") ≡ false → bytes_eq (part ++ codes ".json") (codes "history") ≡ false → ArePrinted l
of_waybill part l w range is third rows other json =
    three (codes "waybills") (number_text w) part l is refl (number_good w) third (ap (λ r. option_and_then (waybill_rows part) (result_ok r)) (number_again w range) ∙ rows)
    (not_history (number_text w) part other) (not_history (number_text w) (part ++ codes ".json") json)

-- the segment of a key

unescaped_good : (b : ℕ) → is_unescaped b ≡ true → is_segment_byte b ≡ true
unescaped_good b h = grind (arith, nat_tests)

hexadecimal_good : (d : ℕ) → d < 16 → is_segment_byte (digit_glyph true d) ≡ true
hexadecimal_good d low = grind (arith, nat_tests)

kept : (key : List ℕ) → is_key key ≡ true → ArePrinted (listing.Kept key)
kept key is =
    let name = key_segment key in
    let bytes : list_all is_segment_byte name ≡ true = segment_all is_segment_byte unescaped_good refl hexadecimal_good key in
    let plain_bytes : list_all (λ b. not (is_slash b)) name ≡ true = all_weaker is_segment_byte (λ b. not (is_slash b)) (λ b h. (and_parts (is_path_good b) (not (is_slash b)) h).1) name bytes in
    let plain_json : list_all (λ b. not (is_slash b)) (name ++ codes ".json") ≡ true = join (λ b. not (is_slash b)) name (codes ".json") plain_bytes refl in
    record {
      good = all_weaker is_segment_byte is_path_good (λ b h. (and_parts (is_path_good b) (not (is_slash b)) h).0) name bytes;
      few = omega (arith, segment_few key is);
      rows = at_two rows_word rows_named rows_part (codes "keys") name refl (no_slash name plain_bytes) ∙ ap (option_map listing.Kept) (key_again key is);
      page = at_two page_word page_named page_part (codes "keys") name refl (no_slash name plain_bytes);
      json_page = at_two page_word page_named page_part (codes "keys") (name ++ codes ".json") refl (no_slash (name ++ codes ".json") plain_json);
    }

printed : (l : Listing) → IsListed l → ArePrinted l
unfolding flight_rows
printed (listing.All report.Stock) is = record { good = refl; few = omega arith; rows = refl; page = refl; json_page = refl }
printed (listing.All report.Announced) is = record { good = refl; few = omega arith; rows = refl; page = refl; json_page = refl }
printed (listing.All report.Shed) is = record { good = refl; few = omega arith; rows = refl; page = refl; json_page = refl }
printed (listing.All report.ShedDays) is = record { good = refl; few = omega arith; rows = refl; page = refl; json_page = refl }
printed (listing.All report.Flights) is = record { good = refl; few = omega arith; rows = refl; page = refl; json_page = refl }
printed (listing.All report.Expected) is = record { good = refl; few = omega arith; rows = refl; page = refl; json_page = refl }
printed (listing.All report.Irregularities) is = record { good = refl; few = omega arith; rows = refl; page = refl; json_page = refl }
printed (listing.All report.IrregularityDays) is = record { good = refl; few = omega arith; rows = refl; page = refl; json_page = refl }
printed (listing.All report.Movements) is = record { good = refl; few = omega arith; rows = refl; page = refl; json_page = refl }
printed (listing.All report.Trail) is = record { good = refl; few = omega arith; rows = refl; page = refl; json_page = refl }
printed (listing.All report.Pending) is = record { good = refl; few = omega arith; rows = refl; page = refl; json_page = refl }
printed (listing.All report.Sent) is = record { good = refl; few = omega arith; rows = refl; page = refl; json_page = refl }
printed (listing.All report.Station) is = record { good = refl; few = omega arith; rows = refl; page = refl; json_page = refl }
printed listing.OpenFlights is = record { good = refl; few = omega arith; rows = refl; page = refl; json_page = refl }
printed listing.OpenExpected is = record { good = refl; few = omega arith; rows = refl; page = refl; json_page = refl }
printed listing.OpenIrregularities is = record { good = refl; few = omega arith; rows = refl; page = refl; json_page = refl }
printed (listing.AgentStock code) is =
    other_kind (codes "agents") code (codes "stock") (listing.AgentStock code) refl refl refl (agent_good code is) refl (ap (λ (t : Bool). option_map listing.AgentStock (where_true t code)) is)
printed (listing.Movements w) is = of_waybill (codes "movements") (listing.Movements w) w is refl refl refl refl refl
printed (listing.Sent w) is = of_waybill (codes "sent") (listing.Sent w) w is refl refl refl refl refl
printed (listing.Trail w) is = of_waybill (codes "trail") (listing.Trail w) w is refl refl refl refl refl
printed (listing.MovementsAfter n) is = numbered (codes "movements") (codes "after") (listing.MovementsAfter n) n is refl refl refl refl refl refl
printed (listing.MovementsLast n) is = numbered (codes "movements") (codes "last") (listing.MovementsLast n) n is refl refl refl refl refl refl
printed (listing.TrailAfter n) is = numbered (codes "trail") (codes "after") (listing.TrailAfter n) n is refl refl refl refl refl refl
printed (listing.TrailLast n) is = numbered (codes "trail") (codes "last") (listing.TrailLast n) n is refl refl refl refl refl refl
printed (listing.PendingAfter n) is = numbered (codes "outbox") (codes "after") (listing.PendingAfter n) n is refl refl refl refl refl refl
printed (listing.SentAfter n) is = numbered (codes "sent") (codes "after") (listing.SentAfter n) n is refl refl refl refl refl refl
printed (listing.Kept key) is = kept key is
printed (listing.Manifest f) (range, day) =
    other_kind (codes "flights") (flight_text f.flight) (day_line f.day) (listing.Manifest f) refl refl refl (flight_good f.flight range) (day_good f.day)
    (whole (λ day. option_map listing.Manifest (flight_date (flight_text f.flight) day)) (flight_part (flight_text f.flight)) (day_line f.day) (no_slash (day_line f.day) (plain (day_line f.day) (day_good f.day)))
    ∙ flight_there listing.Manifest f range day)
printed (listing.Arrivals f) (range, day) =
    four (codes "flights") (flight_text f.flight) (day_line f.day) (codes "arrivals") (listing.Arrivals f) refl refl refl (flight_good f.flight range) (day_good f.day) refl
    (parted (λ day. option_map listing.Manifest (flight_date (flight_text f.flight) day)) (flight_part (flight_text f.flight)) (day_line f.day) (codes "arrivals") (plain (day_line f.day) (day_good f.day))
    ∙ flight_there listing.Arrivals f range day)

pub rows_path_of : (l : Listing) (f : Form) → IsListed l → IsPathOf (rows_path l f) (gets (got_report (in_form f l)))
rows_path_of l form.Text listed =
    let is = printed l listed in
    let path = listing_path l in
    let good = is.good in
    record {
      graphic = all_weaker is_path_good is_ascii_graphic graphic_good path good;
      some = omega arith;
      few = omega (arith, is.few);
      leads = place_is path (all_weaker is_path_good is_path_byte path_good path good)
          ∙ ap (λ o. asked_place o path) is.page
          ∙ ap (λ (v : Bool). option_map (λ p. gets (got_report p)) (if v then option_map (in_form form.Json) (rows_at (take (length path - 5) path)) else option_map (in_form form.Text) (rows_at path))) (no_dot path good)
          ∙ ap (λ (o : Option Listing). option_map (λ p. gets (got_report p)) (option_map (in_form form.Text) o)) is.rows;
    }
rows_path_of l form.Json listed =
    let is = printed l listed in
    let front = listing_path l in
    let path = front ++ codes ".json" in
    let good = is.good in
    record {
      graphic = join is_ascii_graphic front (codes ".json") (all_weaker is_path_good is_ascii_graphic graphic_good front good) refl;
      some = omega arith;
      few = omega (arith, is.few, length-append front (codes ".json"));
      leads = place_is path (join is_path_byte front (codes ".json") (all_weaker is_path_good is_path_byte path_good front good) refl)
          ∙ ap (λ o. asked_place o path) is.json_page
          ∙ ap (λ (v : Bool). option_map (λ p. gets (got_report p)) (if v then option_map (in_form form.Json) (rows_at (take (length path - 5) path)) else option_map (in_form form.Text) (rows_at path))) (json_end front)
          ∙ ap (λ (p : List ℕ). option_map (λ p. gets (got_report p)) (option_map (in_form form.Json) (rows_at p))) (json_front front)
          ∙ ap (λ (o : Option Listing). option_map (λ p. gets (got_report p)) (option_map (in_form form.Json) o)) is.rows;
    }
