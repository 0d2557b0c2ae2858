-- What a reply tells is the line of its answer.
use Rattle.desk_client.proofs.Common.{Bool, List, None, Some, [], answer_text, ap, arith, bytes_eq, check_digit, codes, decimal, decimal_nonempty, false, if◌then◌else◌, length, length-append, lt-ltb, nat_lt, number_text, option_and_then, option_map, padded, prefix_of, refl, serial_of, true, where_true, ℕ, ◌&&◌, ◌++◌, ◌<◌, ◌==◌, ◌^◌, ◌||◌, ◌∙◌, ◌∷◌, ◌≡◌}
use Rattle.imp_fields.specs.Message.{why_word}
use Rattle.serde_json.proofs.OnLiterals.{serde_json_on_literals}
use Rattle.station_days.specs.Date.{day_line}
use Rattle.imp_fields.specs.Fields.{flight_text}
use Rattle.shipment_machine.specs.declared.plans.Detail.{Detail}
use Rattle.shipment_machine.specs.declared.plans.Detail.TheVariants as detail
use Rattle.shipment_machine.specs.Effect.{detail_text, refused_with, flight_date_text}
use Rattle.station_core.specs.declared.answer.Answer.{Answer}
use Rattle.station_core.specs.declared.answer.Answer.TheVariants.{Done, Refused}
use Rattle.http_desk.specs.Reply.{answer_reply, ok_data, refused_data}
use Rattle.desk_client.specs.Content.{ok_line, refused_line, refused_told, refusal_told, count_of, count_told, told_line}
use Rattle.desk_client.specs.Printed.{AreFew, HasFew, reply_line}

-- what an object of a desk has
ok_named : (count : ℕ) → count_of (codes "count") (ok_data count) ≡ Some count
unfolding serde_json_on_literals
ok_named count = refl

ok_has : (count : ℕ) → count < 2 ^ 32 → count_told (ok_data count) ≡ Some count
ok_has count few =
    ap (option_and_then (λ n. where_true (nat_lt n (2 ^ 32)) n)) (ok_named count) ∙ ap (λ (t : Bool). where_true t count) (lt-ltb count (2 ^ 32) few)

refused_has : (number : ℕ) (text : List ℕ) → refusal_told (refused_data number text) ≡ Some (number, text)
unfolding serde_json_on_literals
refused_has number text = refl

-- a text with a byte in it is told behind a blank
told_behind : (number : ℕ) (text : List ℕ) → 0 < length text → refused_line number text ≡ codes "refused " ++ decimal number ++ 32 ∷ text
told_behind number [] some = absurd (omega (arith, some))
told_behind number (b ∷ text) some = refl

some_behind : (front : List ℕ) (b : ℕ) (back : List ℕ) → 0 < length (front ++ b ∷ back)
some_behind front b back = omega (arith, length-append front (b ∷ back))

unread_told : (number : ℕ) (text : List ℕ) → ((number == 301) || (number == 302)) ≡ true → refused_told 400 (number, text) ≡ Some (refused_line number text)
unread_told number text is =
    ap (λ b. if b then Some (refused_line number text) else if (number == 400) && bytes_eq text (codes "body") then Some (codes "body bad") else None) is

line_is : (number : ℕ) (d : Detail) → AreFew d → refused_line number (detail_text d) ≡ refused_with number d
line_is number detail.Nothing few = refl
line_is number (detail.Waybill w) few = told_behind number (number_text w) (some_behind (padded 3 (prefix_of w)) 45 (padded 7 (serial_of w) ++ padded 1 (check_digit (serial_of w))))
line_is number (detail.Pieces pieces) few = told_behind number (decimal pieces) (decimal_nonempty pieces few)
line_is number (detail.Flight flight) few = told_behind number (flight_date_text flight) (some_behind (flight_text flight.flight) 47 (day_line flight.day))
line_is number (detail.Part part) few = told_behind number (detail_text (detail.Part part)) (some_behind (flight_date_text part.flight) 47 (part.airport ++ 47 ∷ decimal part.number))
line_is number (detail.Line line word) few = told_behind number (detail_text (detail.Line line word)) (some_behind (decimal line) 32 (why_word word))
line_is number (detail.Messages confirmed last) few = told_behind number (detail_text (detail.Messages confirmed last)) (some_behind (decimal confirmed) 32 (decimal last))

-- under each status a refusal of the station is told
by_status : (number : ℕ) (text : List ℕ) (unread : Bool) → ((number == 301) || (number == 302)) ≡ unread
    → told_line (if unread then 400 else 409) (refused_data number text) ≡ Some (refused_line number text)
by_status number text true is =
    ap (option_and_then (refused_told 400)) (refused_has number text) ∙ unread_told number text is
by_status number text false is =
    ap (option_and_then (refused_told 409)) (refused_has number text)

pub lines : (a : Answer) → HasFew a → reply_line (answer_reply a) ≡ Some (answer_text a)
lines (Done reply) few = ap (option_map ok_line) (ok_has reply.count few)
lines (Refused refusal) few =
    by_status refusal.number (detail_text refusal.detail) ((refusal.number == 301) || (refusal.number == 302)) refl
    ∙ ap Some (line_is refusal.number refusal.detail few)
