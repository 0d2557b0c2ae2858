-- The lines that are sent are normal lines.
use Rattle.fsu_text.proofs.Common.{Discrepancy, Handling, IsCode, IsFsu, IsSent, IsUpdate, List, None, Ok, SentCarriage, SentStatus, SentUpdate, ShipmentCode, Total, [], airport_code, all_weaker, amount_of, and_from, and_parts, append-nil, arith, carriage_code, check_digit, code_letter, codes, consignment_again, consignment_text, date_code, date_text, decimal, declared_cargo, digits-padded, discrepancy_code, ends_in_blank, eqb-true, false, flight_code, flight_text, fsu_lines, handling_code, inl, inr, is_blank, is_digit, is_digit_bounds, is_letter, is_letter_or_digit, is_name, is_point, is_printable, is_unread, le-leb, leb-true, length, length-append, length-padded, list_all, list_all-append, name_tail, ne_eqb, normal_lines, not-true, number_text, or_cases, padded, prefix_of, quantity_text, quantity_unread, refl, sent_status_text, sent_text, serial_of, subst, sym, told_as, true, update_written, when_text, written_code, ℕ, ◌%◌, ◌++◌, ◌+◌, ◌/◌, ◌<◌, ◌∙◌, ◌∷◌, ◌≡◌, ◌≤◌}
use Rattle.imp_fields.specs.Fields.{IsPieces}
use Rattle.imp_fields.specs.declared.line.Discrepancy.TheVariants as discrepancy
use Rattle.imp_fields.proofs.PutLaws.{length_decimal_short, length_decimal_five}
use Rattle.imp_fields.proofs.SentLaws.{IsPlain, sent_normal, plain_line, ends_as_last, ends_in_none}
use Rattle.fsu_text.specs.declared.status.Handling.TheVariants as handling
use Rattle.fsu_text.specs.declared.sent.SentCarriage.TheVariants as leaving
use Rattle.fsu_text.specs.declared.sent.SentStatus.TheVariants as sent
use Rattle.fsu_text.proofs.SentLaws.{when_code}

-- a printable text of at most so many bytes
record IsPart (most : ℕ) (text : List ℕ) : Type 0 where
  printable : list_all is_printable text ≡ true
  short : length text ≤ most

joined : (m n : ℕ) (a b : List ℕ) → IsPart m a → IsPart n b → IsPart (m + n) (a ++ b)
joined m n a b ha hb =
    let first = ha.short in
    let second = hb.short in
    record { printable = list_all-append is_printable a b ∙ and_from _ _ ha.printable hb.printable; short = omega (arith, length-append a b, first, second) }

slashed_part : (n : ℕ) (a : List ℕ) → IsPart n a → IsPart (1 + n) (47 ∷ a)
slashed_part n a h = let short = h.short in record { printable = and_from _ _ refl h.printable; short = omega (arith, short) }

-- ---- characters

between : (b : ℕ) → 32 ≤ b → b ≤ 126 → is_printable b ≡ true
between b low high = and_from _ _ (le-leb _ _ low) (le-leb _ _ high)

digit_printable : (b : ℕ) → is_digit b ≡ true → is_printable b ≡ true
digit_printable b h = let bounds = is_digit_bounds b h in between b (omega (arith, bounds)) (omega (arith, bounds))

letter_printable : (b : ℕ) → is_letter b ≡ true → is_printable b ≡ true
letter_printable b h =
    let parts = and_parts _ _ h in
    let low : 65 ≤ b = leb-true 65 b parts.0 in
    let high : b ≤ 90 = leb-true b 90 parts.1 in
    between b (omega (arith, low)) (omega (arith, high))

either_printable : (b : ℕ) → is_letter_or_digit b ≡ true → is_printable b ≡ true
either_printable b h = elim (or_cases (is_letter b) (is_digit b) h) [ inl letter ↦ letter_printable b letter | inr digit ↦ digit_printable b digit ]

unread_printable : (b : ℕ) → is_unread b ≡ true → is_printable b ≡ true
unread_printable b h =
    elim (or_cases (is_letter_or_digit b) (is_point b) h) [
      | inl either ↦ either_printable b either
      | inr point ↦ (let at : b ≡ 46 = eqb-true b 46 point in between b (omega (arith, at)) (omega (arith, at)))
    ]

unread_no_blank : (b : ℕ) → is_unread b ≡ true → is_blank b ≡ false
unread_no_blank b h = ne_eqb b 32 (λ e. let at : is_unread 32 ≡ true = subst (λ x. is_unread x ≡ true) e h in cc)

-- ---- parts

empty_part : IsPart 0 []
empty_part = record { printable = refl; short = omega arith }

digits_part : (w n : ℕ) → IsPart w (padded w n)
digits_part w n = record { printable = all_weaker is_digit is_printable digit_printable (padded w n) (digits-padded w n); short = omega (arith, length-padded w n) }

code_part : (most : ℕ) (text : List ℕ) → IsCode most text → IsPart most text
code_part most text h = record { printable = all_weaker is_letter_or_digit is_printable either_printable text h.bytes; short = h.most }

number_part : (k : ℕ) → IsPart 12 (number_text k)
number_part k =
    let prefix = padded 3 (prefix_of k) in
    let serial = padded 7 (serial_of k) in
    let check = padded 1 (check_digit (serial_of k)) in
    joined 11 1 (prefix ++ (45 ∷ []) ++ serial) check
    (joined 4 7 (prefix ++ 45 ∷ []) serial (joined 3 1 prefix (45 ∷ []) (digits_part 3 (prefix_of k)) (record { printable = refl; short = omega arith })) (digits_part 7 (serial_of k)))
    (digits_part 1 (check_digit (serial_of k)))

quantity_part : (code : ShipmentCode) (pieces tenths : ℕ) → IsPieces pieces → tenths ≤ 999_999 → IsPart 13 (quantity_text code pieces tenths None)
quantity_part code pieces tenths h le =
    let ds = decimal pieces in
    let ks = decimal (tenths / 10) in
    let last = 48 + tenths % 10 in
    let four : length ds ≤ 4 = length_decimal_short pieces h.1 in
    let five : length ks ≤ 5 = length_decimal_five (tenths / 10) (omega (arith, le)) in
    let weight : length (75 ∷ (ks ++ (46 ∷ []) ++ last ∷ [])) ≡ 1 + (length ks + 2) = omega (arith, length-append (ks ++ 46 ∷ []) (last ∷ []), length-append ks (46 ∷ [])) in
    let whole : length (quantity_text code pieces tenths None) ≡ length ds + 1 + (length ks + 3) =
    omega (arith, weight, length-append ((code_letter code ∷ ds) ++ (75 ∷ (ks ++ (46 ∷ []) ++ last ∷ []))) [], length-append (code_letter code ∷ ds) (75 ∷ (ks ++ (46 ∷ []) ++ last ∷ []))) in
    record {
      printable = all_weaker is_unread is_printable unread_printable (quantity_text code pieces tenths None) (quantity_unread code pieces tenths None (h, le, tt));
      short = omega (arith, whole, four, five);
    }

tail_part : (name : List ℕ) → is_name name ≡ true → IsPart 36 (name_tail name)
tail_part [] h = record { printable = refl; short = omega arith }
tail_part (b ∷ name) h =
    let parts = and_parts _ _ (and_parts _ _ h).0 in
    slashed_part 35 (b ∷ name) (record { printable = parts.1; short = leb-true (length (b ∷ name)) 35 parts.0 })

-- ---- ends

-- the text has a last byte, which is no blank
record Ends (text : List ℕ) : Type 0 where
  some : 0 < length text
  no_blank : ends_in_blank text ≡ false

quantity_ends : (code : ShipmentCode) (pieces tenths : ℕ) → IsPieces pieces → tenths ≤ 999_999 → Ends (quantity_text code pieces tenths None)
quantity_ends code pieces tenths h le =
    let q = quantity_text code pieces tenths None in
    let some : 0 < length q = omega arith in
    record { some = some; no_blank = ends_in_none is_unread unread_no_blank q some (quantity_unread code pieces tenths None (h, le, tt)) }

behind : (a x : List ℕ) → Ends x → Ends (a ++ x)
behind a x h = let some = h.some in record { some = omega (arith, some, length-append a x); no_blank = ends_as_last a x h.some ∙ h.no_blank }

field_ends : (a x : List ℕ) → Ends x → Ends (a ++ (47 ∷ x))
field_ends a x h = behind a (47 ∷ x) (behind (47 ∷ []) x h)

no_more : (x : List ℕ) → Ends x → Ends (x ++ [])
no_more x h = subst Ends (sym (append-nil x)) h

tail_ends : (x name : List ℕ) → is_name name ≡ true → Ends x → Ends (x ++ name_tail name)
tail_ends x [] h e = no_more x e
tail_ends x (b ∷ name) h e = field_ends x (b ∷ name) (record { some = omega arith; no_blank = not-true _ (and_parts _ _ h).1 })

is_plain_line : (n : ℕ) (line : List ℕ) → n ≤ 255 → IsPart n line → Ends line → IsPlain line
is_plain_line n line le part ends = let short = part.short in plain_line line ends.some (omega (arith, le, short)) part.printable ends.no_blank

-- ---- lines

head_plain : IsPlain (codes "FSU/12")
head_plain = plain_line (codes "FSU/12") (omega arith) (omega arith) refl refl

consignment_plain : (u : SentUpdate) → IsUpdate u → IsPlain (consignment_text (declared_cargo u.of))
consignment_plain u h =
    let q = quantity_text Total u.of.pieces u.of.tenths None in
    let number = number_text u.of.awb in
    let from = number ++ u.of.origin in
    let to = from ++ u.of.destination in
    is_plain_line 32 (consignment_text (declared_cargo u.of)) (omega arith)
    (joined 32 0 (to ++ (47 ∷ []) ++ q) []
    (joined 19 13 (to ++ (47 ∷ [])) q
    (joined 18 1 to (47 ∷ [])
    (joined 15 3 from u.of.destination
    (joined 12 3 number u.of.origin (number_part u.of.awb) (code_part 3 u.of.origin (airport_code u.of.origin h.declared.origin)))
    (code_part 3 u.of.destination (airport_code u.of.destination h.declared.destination)))
    (record { printable = refl; short = omega arith }))
    (quantity_part Total u.of.pieces u.of.tenths h.declared.pieces h.declared.tenths))
    empty_part)
    (no_more (to ++ (47 ∷ []) ++ q) (behind (to ++ (47 ∷ [])) q (quantity_ends Total u.of.pieces u.of.tenths h.declared.pieces h.declared.tenths)))

handling_part : (what : Handling) → IsPart 3 (handling_code what)
handling_part handling.ReceivedFromShipper = record { printable = refl; short = omega arith }
handling_part handling.Notified = record { printable = refl; short = omega arith }
handling_part handling.Delivered = record { printable = refl; short = omega arith }

carriage_part : (what : SentCarriage) → IsPart 3 (carriage_code (told_as what))
carriage_part leaving.Manifested = record { printable = refl; short = omega arith }
carriage_part leaving.Departed = record { printable = refl; short = omega arith }

discrepancy_part : (what : Discrepancy) → IsPart 4 (discrepancy_code what)
discrepancy_part discrepancy.Offloaded = record { printable = refl; short = omega arith }
discrepancy_part discrepancy.Missing = record { printable = refl; short = omega arith }
discrepancy_part discrepancy.Found = record { printable = refl; short = omega arith }

-- two parts with a slash between them
field_part : (m n : ℕ) (a b : List ℕ) → IsPart m a → IsPart n b → IsPart (m + (1 + n)) (a ++ (47 ∷ b))
field_part m n a b ha hb = joined m (1 + n) a (47 ∷ b) ha (slashed_part n b hb)

status_plain : (u : SentUpdate) (status : SentStatus) → IsUpdate u → IsSent status → IsPlain (sent_status_text status u)
status_plain u status h s = by status s
  where
    amount : IsPart 13 (amount_of u)
    amount = quantity_part (written_code u.pieces u.of.pieces) u.pieces u.tenths h.pieces h.tenths

    ends : Ends (amount_of u)
    ends = quantity_ends (written_code u.pieces u.of.pieces) u.pieces u.tenths h.pieces h.tenths

    here : IsPart 3 u.here
    here = code_part 3 u.here (airport_code u.here h.here)

    by : (status : SentStatus) → IsSent status → IsPlain (sent_status_text status u)
    by (sent.Handled what t name) s =
        let code = handling_code what in
        let when = when_text t in
        let last = u.here ++ (47 ∷ amount_of u) in
        let core = code ++ (47 ∷ (when ++ (47 ∷ last))) in
        is_plain_line 67 (core ++ name_tail name) (omega arith)
        (joined 31 36 core (name_tail name)
        (field_part 3 27 code (when ++ (47 ∷ last)) (handling_part what)
        (field_part 9 17 when last (code_part 9 when (when_code t s.0)) (field_part 3 13 u.here (amount_of u) here amount)))
        (tail_part name s.2))
        (tail_ends core name s.2 (field_ends code (when ++ (47 ∷ last)) (field_ends when last (field_ends u.here (amount_of u) ends))))
    by (sent.ReceivedFromFlight f t) s =
        let flight = flight_text f in
        let when = when_text t in
        let last = u.here ++ (47 ∷ amount_of u) in
        is_plain_line 39 (codes "RCF" ++ (47 ∷ (flight ++ (47 ∷ (when ++ (47 ∷ last)))))) (omega arith)
        (field_part 3 35 (codes "RCF") (flight ++ (47 ∷ (when ++ (47 ∷ last)))) (record { printable = refl; short = omega arith })
        (field_part 7 27 flight (when ++ (47 ∷ last)) (code_part 7 flight (flight_code f s.0))
        (field_part 9 17 when last (code_part 9 when (when_code t s.1)) (field_part 3 13 u.here (amount_of u) here amount))))
        (field_ends (codes "RCF") (flight ++ (47 ∷ (when ++ (47 ∷ last)))) (field_ends flight (when ++ (47 ∷ last)) (field_ends when last (field_ends u.here (amount_of u) ends))))
    by (sent.Carried what f d to) s =
        let code = carriage_code (told_as what) in
        let flight = flight_text f in
        let date = date_text d in
        let route = u.here ++ to in
        let last = route ++ (47 ∷ amount_of u) in
        is_plain_line 38 (code ++ (47 ∷ (flight ++ (47 ∷ (date ++ (47 ∷ last)))))) (omega arith)
        (field_part 3 34 code (flight ++ (47 ∷ (date ++ (47 ∷ last)))) (carriage_part what)
        (field_part 7 26 flight (date ++ (47 ∷ last)) (code_part 7 flight (flight_code f s.0))
        (field_part 5 20 date last (code_part 5 date (date_code d s.1).0)
        (field_part 6 13 route (amount_of u) (joined 3 3 u.here to here (code_part 3 to (airport_code to s.2))) amount))))
        (field_ends code (flight ++ (47 ∷ (date ++ (47 ∷ last)))) (field_ends flight (date ++ (47 ∷ last)) (field_ends date last (field_ends route (amount_of u) ends))))
    by (sent.Differs what f t) s =
        let flight = flight_text f in
        let when = when_text t in
        let code = discrepancy_code what in
        let last = code ++ (47 ∷ amount_of u) in
        let place = u.here ++ (47 ∷ last) in
        is_plain_line 44 (codes "DIS" ++ (47 ∷ (flight ++ (47 ∷ (when ++ (47 ∷ place)))))) (omega arith)
        (field_part 3 40 (codes "DIS") (flight ++ (47 ∷ (when ++ (47 ∷ place)))) (record { printable = refl; short = omega arith })
        (field_part 7 32 flight (when ++ (47 ∷ place)) (code_part 7 flight (flight_code f s.0))
        (field_part 9 22 when place (code_part 9 when (when_code t s.1)) (field_part 3 18 u.here last here (field_part 4 13 code (amount_of u) (discrepancy_part what) amount)))))
        (field_ends (codes "DIS") (flight ++ (47 ∷ (when ++ (47 ∷ place)))) (field_ends flight (when ++ (47 ∷ place)) (field_ends when place
        (field_ends u.here last (field_ends code (amount_of u) ends)))))

-- ---- the message

sent_length : (line : List ℕ) (lines : List (List ℕ)) → IsPlain line → length (sent_text (line ∷ lines)) ≤ 257 + length (sent_text lines)
sent_length line lines h =
    let short = h.short in omega (arith, short, length-append (line ++ (13 ∷ 10 ∷ [])) (sent_text lines), length-append line (13 ∷ 10 ∷ []))

pub lines_normal : (u : SentUpdate) → IsUpdate u → normal_lines (sent_text (fsu_lines u)) ≡ Ok (fsu_lines u)
lines_normal u h =
    let second = consignment_text (declared_cargo u.of) in
    let third = sent_status_text u.status u in
    let second_plain = consignment_plain u h in
    let third_plain = status_plain u u.status h h.status in
    sent_normal (codes "FSU/12") (second ∷ third ∷ []) (head_plain, (second_plain, (third_plain, tt))) refl (omega arith)
    (omega (arith, sent_length (codes "FSU/12") (second ∷ third ∷ []) head_plain, sent_length second (third ∷ []) second_plain, sent_length third [] third_plain))

pub lines_read : (u : SentUpdate) → IsUpdate u → IsFsu (fsu_lines u) (update_written u)
lines_read u h = (refl, consignment_again (declared_cargo u.of) (h.declared.awb, h.declared.origin, h.declared.destination, (h.declared.pieces, h.declared.tenths, tt)), refl)
