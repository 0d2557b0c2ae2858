-- What is sent is read again.
use Rattle.fsu_text.proofs.Common.{CalendarDay, Carriage, Carried, Day, Designator, Differs, Discrepancy, Handled, Handling, IsCalendarDay, IsCode, IsSent, IsUpdate, List, None, Option, Quantity, Reading, ReceivedFromFlight, SentCarriage, SentStatus, SentUpdate, Some, When, [], airport_code, all_weaker, amount_of, and_from, and_parts, ap, append-nil, append_assoc, arith, carriage_of, carried_by, carried_of, codes, cond-false, cond-true, date_again, date_code, date_of, date_text, date_time_of, day_of, differs_by, differs_of, digits-padded, discrepancy_code, discrepancy_of, drop, drop_at, eqb-true, false, fields, flight_again, flight_code, flight_of, flight_text, handled_by, handled_of, handling_code, handling_of, is_digit, is_letter_or_digit, is_name, is_slash, is_unread, join_with_byte, join_with_byte-slice_split, length, length-append, list_all, list_all-append, minute_again, minute_of, name_of, name_tail, ne_eqb, not, not-true, onto_first, option_map, optional_time_again, optional_time_of, or_else, or_left, or_right, padded, quantity_again, quantity_of, quantity_unread, received_by, received_of, refl, route_of, sent_status_reading, sent_status_text, status_of, take, take_at, time_text, true, unread_is_no_slash, when_text, written_code, written_quantity, ℕ, ◌%◌, ◌++◌, ◌/◌, ◌<◌, ◌==◌, ◌>>=◌, ◌∙◌, ◌∷◌, ◌≡◌}
use Rattle.imp_fields.specs.Fields.{is_airport, airport_of}
use Rattle.imp_fields.specs.declared.line.Discrepancy.TheVariants as discrepancy
use Rattle.fsu_text.specs.declared.status.Handling.TheVariants as handling
use Rattle.fsu_text.specs.declared.status.Carriage.TheVariants as carriage
use Rattle.fsu_text.specs.declared.sent.SentCarriage.TheVariants as leaving
use Rattle.fsu_text.specs.declared.sent.SentStatus.TheVariants as sent

-- ---- parts of a line that hold no slash

abbrev pub HasNoSlash : List ℕ → Type 0
HasNoSlash text = list_all (λ b. not (is_slash b)) text ≡ true

split_at : (text rest : List ℕ) → HasNoSlash text → fields (text ++ (47 ∷ rest)) ≡ text ∷ fields rest
split_at [] rest h = refl
split_at (b ∷ text) rest h =
    let parts = and_parts _ _ h in
    cond-false _ _ _ (not-true _ parts.0) ∙ ap (onto_first b) (split_at text rest parts.1)

split_none : (text : List ℕ) → HasNoSlash text → fields text ≡ text ∷ []
split_none [] h = refl
split_none (b ∷ text) h =
    let parts = and_parts _ _ h in
    cond-false _ _ _ (not-true _ parts.0) ∙ ap (onto_first b) (split_none text parts.1)

code_clean : (text : List ℕ) → list_all is_letter_or_digit text ≡ true → HasNoSlash text
code_clean text h = all_weaker is_letter_or_digit (λ b. not (is_slash b)) (λ b e. unread_is_no_slash b (or_left _ _ e)) text h

unread_clean : (text : List ℕ) → list_all is_unread text ≡ true → HasNoSlash text
unread_clean text h = all_weaker is_unread (λ b. not (is_slash b)) unread_is_no_slash text h

-- a line of clean parts is cut into them
cut_four : (a b c rest : List ℕ) → HasNoSlash a → HasNoSlash b → HasNoSlash c
    → fields (a ++ (47 ∷ (b ++ (47 ∷ (c ++ (47 ∷ rest)))))) ≡ a ∷ b ∷ c ∷ fields rest
cut_four a b c rest ha hb hc =
    split_at a (b ++ (47 ∷ (c ++ (47 ∷ rest)))) ha
    ∙ ap (λ x. a ∷ x) (split_at b (c ++ (47 ∷ rest)) hb ∙ ap (λ x. b ∷ x) (split_at c rest hc))

cut_five : (a b c d e : List ℕ) → HasNoSlash a → HasNoSlash b → HasNoSlash c → HasNoSlash d → HasNoSlash e
    → fields (a ++ (47 ∷ (b ++ (47 ∷ (c ++ (47 ∷ (d ++ (47 ∷ e)))))))) ≡ a ∷ b ∷ c ∷ d ∷ e ∷ []
cut_five a b c d e ha hb hc hd he =
    cut_four a b c (d ++ (47 ∷ e)) ha hb hc ∙ ap (λ x. a ∷ b ∷ c ∷ x) (split_at d e hd ∙ ap (λ x. d ∷ x) (split_none e he))

cut_six : (a b c d e f : List ℕ) → HasNoSlash a → HasNoSlash b → HasNoSlash c → HasNoSlash d → HasNoSlash e → HasNoSlash f
    → fields (a ++ (47 ∷ (b ++ (47 ∷ (c ++ (47 ∷ (d ++ (47 ∷ (e ++ (47 ∷ f)))))))))) ≡ a ∷ b ∷ c ∷ d ∷ e ∷ f ∷ []
cut_six a b c d e f ha hb hc hd he hf =
    split_at a (b ++ (47 ∷ (c ++ (47 ∷ (d ++ (47 ∷ (e ++ (47 ∷ f)))))))) ha ∙ ap (λ x. a ∷ x) (cut_five b c d e f hb hc hd he hf)

-- ---- the fields are read again

when_again : (t : When) → IsCalendarDay t.date → t.minute < 1440 → date_time_of (when_text t) ≡ Some t
when_again t d m =
    let five = (date_code t.date d).1 in
    let front : take 5 (when_text t) ≡ date_text t.date = take_at (date_text t.date) (time_text t.minute) 5 five in
    let back : drop 5 (when_text t) ≡ time_text t.minute = drop_at (date_text t.date) (time_text t.minute) 5 five in
    let date : date_of (take 5 (when_text t)) ≡ Some t.date = ap date_of front ∙ date_again t.date d in
    let minute : minute_of (drop 5 (when_text t)) ≡ Some t.minute = ap minute_of back ∙ minute_again t.minute m in
    let made : Option CalendarDay → Option ℕ → Option When = λ a b. a >>= λ date. b >>= λ minute. Some (record { date = date; minute = minute }) in
    ap (λ a. made a (minute_of (drop 5 (when_text t)))) date ∙ ap (λ b. made (Some t.date) b) minute

airport_again : (a : List ℕ) → is_airport a ≡ true → airport_of a ≡ Some a
airport_again a h = cond-true _ _ _ h

name_again : (name : List ℕ) → is_name name ≡ true → name_of name ≡ Some name
name_again name h = cond-true _ _ _ h

handling_again : (what : Handling) → handling_of (handling_code what) ≡ Some what
handling_again handling.ReceivedFromShipper = refl
handling_again handling.Notified = refl
handling_again handling.Delivered = refl

discrepancy_again : (what : Discrepancy) → discrepancy_of (discrepancy_code what) ≡ Some what
discrepancy_again discrepancy.Offloaded = refl
discrepancy_again discrepancy.Missing = refl
discrepancy_again discrepancy.Found = refl

abbrev dated : CalendarDay → Day
dated d = record { date = d; minute = None }

abbrev timed : When → Day
timed t = record { date = t.date; minute = Some t.minute }

-- a date of five letters has no time
date_alone : (d : CalendarDay) → IsCalendarDay d → day_of (date_text d) ≡ Some (dated d)
date_alone d h = ap (λ o. option_map (λ both. record { date = both.0; minute = both.1 }) o) (optional_time_again d h)

-- nine bytes have one
date_and_time : (t : When) → IsCalendarDay t.date → t.minute < 1440 → day_of (when_text t) ≡ Some (timed t)
date_and_time t d m =
    let five = (date_code t.date d).1 in
    let nine : length (when_text t) ≡ 9 = omega (arith, five, length-append (date_text t.date) (time_text t.minute)) in
    let long : (length (when_text t) == 5) ≡ false = ne_eqb _ _ (λ e. omega (arith, e, nine)) in
    let with_time : Option When → Option (CalendarDay × Option ℕ) = λ o. o >>= λ t. Some (t.date, Some t.minute) in
    let time : optional_time_of (when_text t) ≡ Some (t.date, Some t.minute) = cond-false _ _ _ long ∙ ap with_time (when_again t d m) in
    ap (λ o. option_map (λ both. record { date = both.0; minute = both.1 }) o) time

route_again : (from to : List ℕ) → is_airport from ≡ true → is_airport to ≡ true → route_of (from ++ to) ≡ Some (from, to)
route_again from to f t =
    let three : length from ≡ 3 = eqb-true _ _ (and_parts _ _ f).0 in
    let made : Option (List ℕ) → Option (List ℕ) → Option (List ℕ × List ℕ) = λ a b. a >>= λ x. b >>= λ y. Some (x, y) in
    ap (λ a. made a (airport_of (drop 3 (from ++ to)))) (ap airport_of (take_at from to 3 three) ∙ airport_again from f)
    ∙ ap (λ b. made (Some from) b) (ap airport_of (drop_at from to 3 three) ∙ airport_again to t)

-- ---- the layouts, where each field is read

handled_from : (code at here amount name : List ℕ) (what : Handling) (t : When) (q : Quantity) → handling_of code ≡ Some what → date_time_of at ≡ Some t
    → airport_of here ≡ Some here → quantity_of amount ≡ Some q → name_of name ≡ Some name → handled_by code at here amount name ≡ Some (Handled what t here q name)
handled_from code at here amount name what t q e1 e2 e3 e4 e5 =
    let made : Option Handling → Option When → Option (List ℕ) → Option Quantity → Option (List ℕ) → Option Reading =
    λ a b c d e. a >>= λ event. b >>= λ time. c >>= λ place. d >>= λ quantity. e >>= λ who. Some (Handled event time place quantity who) in
    ap (λ a. made a (date_time_of at) (airport_of here) (quantity_of amount) (name_of name)) e1
    ∙ ap (λ b. made (Some what) b (airport_of here) (quantity_of amount) (name_of name)) e2
    ∙ ap (λ c. made (Some what) (Some t) c (quantity_of amount) (name_of name)) e3
    ∙ ap (λ d. made (Some what) (Some t) (Some here) d (name_of name)) e4
    ∙ ap (λ e. made (Some what) (Some t) (Some here) (Some q) e) e5

received_from : (flight at here amount : List ℕ) (f : Designator) (t : When) (q : Quantity) → flight_of flight ≡ Some f → date_time_of at ≡ Some t
    → airport_of here ≡ Some here → quantity_of amount ≡ Some q → received_by (codes "RCF") flight at here amount ≡ Some (ReceivedFromFlight f t here q)
received_from flight at here amount f t q e1 e2 e3 e4 =
    let made : Option Designator → Option When → Option (List ℕ) → Option Quantity → Option Reading =
    λ a b c d. a >>= λ on. b >>= λ time. c >>= λ place. d >>= λ quantity. Some (ReceivedFromFlight on time place quantity) in
    ap (λ a. made a (date_time_of at) (airport_of here) (quantity_of amount)) e1
    ∙ ap (λ b. made (Some f) b (airport_of here) (quantity_of amount)) e2
    ∙ ap (λ c. made (Some f) (Some t) c (quantity_of amount)) e3
    ∙ ap (λ d. made (Some f) (Some t) (Some here) d) e4

carried_from : (code flight date route amount from to : List ℕ) (what : Carriage) (f : Designator) (day : Day) (q : Quantity) → carriage_of code ≡ Some what
    → flight_of flight ≡ Some f → day_of date ≡ Some day → route_of route ≡ Some (from, to) → quantity_of amount ≡ Some q
    → carried_by code flight date route amount ≡ Some (Carried what f day from to q)
carried_from code flight date route amount from to what f day q e1 e2 e3 e4 e5 =
    let made : Option Carriage → Option Designator → Option Day → Option (List ℕ × List ℕ) → Option Quantity → Option Reading =
    λ a b c d e. a >>= λ event. b >>= λ on. c >>= λ day. d >>= λ stations. e >>= λ quantity. Some (Carried event on day stations.0 stations.1 quantity) in
    ap (λ a. made a (flight_of flight) (day_of date) (route_of route) (quantity_of amount)) e1
    ∙ ap (λ b. made (Some what) b (day_of date) (route_of route) (quantity_of amount)) e2
    ∙ ap (λ c. made (Some what) (Some f) c (route_of route) (quantity_of amount)) e3
    ∙ ap (λ d. made (Some what) (Some f) (Some day) d (quantity_of amount)) e4
    ∙ ap (λ e. made (Some what) (Some f) (Some day) (Some (from, to)) e) e5

differs_from : (flight date here what amount : List ℕ) (f : Designator) (day : Day) (d : Discrepancy) (q : Quantity) → flight_of flight ≡ Some f → day_of date ≡ Some day
    → airport_of here ≡ Some here → discrepancy_of what ≡ Some d → quantity_of amount ≡ Some q
    → differs_by (codes "DIS") flight date here what amount ≡ Some (Differs f day here d q)
differs_from flight date here what amount f day d q e1 e2 e3 e4 e5 =
    let made : Option Designator → Option Day → Option (List ℕ) → Option Discrepancy → Option Quantity → Option Reading =
    λ a b c d e. a >>= λ on. b >>= λ day. c >>= λ place. d >>= λ what. e >>= λ quantity. Some (Differs on day place what quantity) in
    ap (λ a. made a (day_of date) (airport_of here) (discrepancy_of what) (quantity_of amount)) e1
    ∙ ap (λ b. made (Some f) b (airport_of here) (discrepancy_of what) (quantity_of amount)) e2
    ∙ ap (λ c. made (Some f) (Some day) c (discrepancy_of what) (quantity_of amount)) e3
    ∙ ap (λ e. made (Some f) (Some day) (Some here) e (quantity_of amount)) e4
    ∙ ap (λ e. made (Some f) (Some day) (Some here) (Some d) e) e5

-- ---- what is sent

amount_again : (u : SentUpdate) → IsUpdate u → quantity_of (amount_of u) ≡ Some (written_quantity u)
amount_again u h = quantity_again (written_code u.pieces u.of.pieces) u.pieces u.tenths None (h.pieces, h.tenths, tt)

pub amount_unread : (u : SentUpdate) → IsUpdate u → list_all is_unread (amount_of u) ≡ true
amount_unread u h = quantity_unread (written_code u.pieces u.of.pieces) u.pieces u.tenths None (h.pieces, h.tenths, tt)

amount_clean : (u : SentUpdate) → IsUpdate u → HasNoSlash (amount_of u)
amount_clean u h = unread_clean (amount_of u) (amount_unread u h)

pub time_code : (minute : ℕ) → list_all is_letter_or_digit (time_text minute) ≡ true
time_code minute =
    all_weaker is_digit is_letter_or_digit (λ b e. or_right _ _ e) (time_text minute)
    (list_all-append is_digit (padded 2 (minute / 60)) (padded 2 (minute % 60)) ∙ and_from _ _ (digits-padded 2 (minute / 60)) (digits-padded 2 (minute % 60)))

pub when_code : (t : When) → IsCalendarDay t.date → IsCode 9 (when_text t)
when_code t d =
    let date = date_code t.date d in
    let five = date.1 in
    record {
      bytes = list_all-append is_letter_or_digit (date_text t.date) (time_text t.minute) ∙ and_from _ _ date.0.bytes (time_code t.minute);
      most = omega (arith, five, length-append (date_text t.date) (time_text t.minute));
    }

clean_of : (limit : ℕ) (text : List ℕ) → IsCode limit text → HasNoSlash text
clean_of limit text h = code_clean text h.bytes

route_clean : (from to : List ℕ) → is_airport from ≡ true → is_airport to ≡ true → HasNoSlash (from ++ to)
route_clean from to f t = code_clean (from ++ to) (list_all-append is_letter_or_digit from to ∙ and_from _ _ (airport_code from f).bytes (airport_code to t).bytes)

handling_clean : (what : Handling) → HasNoSlash (handling_code what)
handling_clean handling.ReceivedFromShipper = refl
handling_clean handling.Notified = refl
handling_clean handling.Delivered = refl

discrepancy_clean : (what : Discrepancy) → HasNoSlash (discrepancy_code what)
discrepancy_clean discrepancy.Offloaded = refl
discrepancy_clean discrepancy.Missing = refl
discrepancy_clean discrepancy.Found = refl

-- the fields of a name's tail
tail_of : List ℕ → List (List ℕ)
tail_of [] = []
tail_of (b ∷ name) = fields (b ∷ name)

tail_fields : (text name : List ℕ) → HasNoSlash text → fields (text ++ name_tail name) ≡ text ∷ tail_of name
unfolding tail_of
tail_fields text [] h = ap fields (append-nil text) ∙ split_none text h
tail_fields text (b ∷ name) h = split_at text (b ∷ name) h

tail_joined : (name : List ℕ) → join_with_byte 47 (tail_of name) ≡ name
unfolding tail_of
tail_joined [] = refl
tail_joined (b ∷ name) = join_with_byte-slice_split 47 (b ∷ name)

abbrev status_by : List (List ℕ) → Option Reading
status_by parts = or_else (handled_of parts) (or_else (received_of parts) (or_else (carried_of parts) (differs_of parts)))

status_is : (line : List ℕ) (parts : List (List ℕ)) → fields line ≡ parts → status_of line ≡ status_by parts
status_is line parts e = ap status_by e

handled_again : (u : SentUpdate) (what : Handling) (t : When) (name : List ℕ) → IsUpdate u → IsSent (sent.Handled what t name)
    → status_of (sent_status_text (sent.Handled what t name) u) ≡ Some (sent_status_reading (sent.Handled what t name) u)
handled_again u what t name h s =
    let code = handling_code what in
    let when = when_text t in
    let amount = amount_of u in
    let flat : sent_status_text (sent.Handled what t name) u ≡ code ++ (47 ∷ (when ++ (47 ∷ (u.here ++ (47 ∷ (amount ++ name_tail name)))))) =
    append_assoc code (47 ∷ (when ++ (47 ∷ (u.here ++ (47 ∷ amount))))) (name_tail name)
    ∙ ap (λ x. code ++ (47 ∷ x)) (append_assoc when (47 ∷ (u.here ++ (47 ∷ amount))) (name_tail name)
    ∙ ap (λ x. when ++ (47 ∷ x)) (append_assoc u.here (47 ∷ amount) (name_tail name))) in
    let cut : fields (sent_status_text (sent.Handled what t name) u) ≡ code ∷ when ∷ u.here ∷ amount ∷ tail_of name =
    ap fields flat ∙ cut_four code when u.here (amount ++ name_tail name) (handling_clean what) (clean_of 9 when (when_code t s.0)) (clean_of 3 u.here (airport_code u.here h.here))
    ∙ ap (λ x. code ∷ when ∷ u.here ∷ x) (tail_fields amount name (amount_clean u h)) in
    let parts = code ∷ when ∷ u.here ∷ amount ∷ tail_of name in
    let read : handled_of parts ≡ Some (sent_status_reading (sent.Handled what t name) u) =
    ap (λ n. handled_by code when u.here amount n) (tail_joined name)
    ∙ handled_from code when u.here amount name what t (written_quantity u) (handling_again what) (when_again t s.0 s.1) (airport_again u.here h.here) (amount_again u h) (name_again name s.2) in
    status_is (sent_status_text (sent.Handled what t name) u) parts cut ∙ ap (λ o. or_else o (or_else (received_of parts) (or_else (carried_of parts) (differs_of parts)))) read

received_again : (u : SentUpdate) (f : Designator) (t : When) → IsUpdate u → IsSent (sent.ReceivedFromFlight f t)
    → status_of (sent_status_text (sent.ReceivedFromFlight f t) u) ≡ Some (sent_status_reading (sent.ReceivedFromFlight f t) u)
received_again u f t h s =
    let flight = flight_text f in
    let when = when_text t in
    let amount = amount_of u in
    let parts = codes "RCF" ∷ flight ∷ when ∷ u.here ∷ amount ∷ [] in
    let cut : fields (sent_status_text (sent.ReceivedFromFlight f t) u) ≡ parts =
    cut_five (codes "RCF") flight when u.here amount refl (clean_of 7 flight (flight_code f s.0)) (clean_of 9 when (when_code t s.1)) (clean_of 3 u.here (airport_code u.here h.here))
    (amount_clean u h) in
    status_is (sent_status_text (sent.ReceivedFromFlight f t) u) parts cut
    ∙ ap (λ o. or_else o (or_else (carried_of parts) (differs_of parts)))
    (received_from flight when u.here amount f t (written_quantity u) (flight_again f s.0) (when_again t s.1 s.2) (airport_again u.here h.here) (amount_again u h))

carried_again : (u : SentUpdate) (what : SentCarriage) (f : Designator) (d : CalendarDay) (to : List ℕ) → IsUpdate u → IsSent (sent.Carried what f d to)
    → status_of (sent_status_text (sent.Carried what f d to) u) ≡ Some (sent_status_reading (sent.Carried what f d to) u)
carried_again u what f d to h s = by what
  where
    whole : (code : List ℕ) → HasNoSlash code
        → fields (code ++ (47 ∷ (flight_text f ++ (47 ∷ (date_text d ++ (47 ∷ ((u.here ++ to) ++ (47 ∷ amount_of u))))))))
        ≡ code ∷ flight_text f ∷ date_text d ∷ (u.here ++ to) ∷ amount_of u ∷ []
    whole code clean =
        cut_five code (flight_text f) (date_text d) (u.here ++ to) (amount_of u) clean (clean_of 7 (flight_text f) (flight_code f s.0)) (clean_of 5 (date_text d) (date_code d s.1).0)
        (route_clean u.here to h.here s.2) (amount_clean u h)

    read : (code : List ℕ) (which : Carriage) → carriage_of code ≡ Some which
        → carried_by code (flight_text f) (date_text d) (u.here ++ to) (amount_of u) ≡ Some (Carried which f (record { date = d; minute = None }) u.here to (written_quantity u))
    read code which e =
        carried_from code (flight_text f) (date_text d) (u.here ++ to) (amount_of u) u.here to which f (record { date = d; minute = None }) (written_quantity u) e
        (flight_again f s.0) (date_alone d s.1) (route_again u.here to h.here s.2) (amount_again u h)

    by : (which : SentCarriage) → status_of (sent_status_text (sent.Carried which f d to) u) ≡ Some (sent_status_reading (sent.Carried which f d to) u)
    by leaving.Manifested =
        status_is (sent_status_text (sent.Carried leaving.Manifested f d to) u) (codes "MAN" ∷ flight_text f ∷ date_text d ∷ (u.here ++ to) ∷ amount_of u ∷ []) (whole (codes "MAN") refl)
        ∙ ap (λ o. or_else o (differs_of (codes "MAN" ∷ flight_text f ∷ date_text d ∷ (u.here ++ to) ∷ amount_of u ∷ []))) (read (codes "MAN") carriage.Manifested refl)
    by leaving.Departed =
        status_is (sent_status_text (sent.Carried leaving.Departed f d to) u) (codes "DEP" ∷ flight_text f ∷ date_text d ∷ (u.here ++ to) ∷ amount_of u ∷ []) (whole (codes "DEP") refl)
        ∙ ap (λ o. or_else o (differs_of (codes "DEP" ∷ flight_text f ∷ date_text d ∷ (u.here ++ to) ∷ amount_of u ∷ []))) (read (codes "DEP") carriage.Departed refl)

differs_again : (u : SentUpdate) (what : Discrepancy) (f : Designator) (t : When) → IsUpdate u → IsSent (sent.Differs what f t)
    → status_of (sent_status_text (sent.Differs what f t) u) ≡ Some (sent_status_reading (sent.Differs what f t) u)
differs_again u what f t h s =
    let flight = flight_text f in
    let when = when_text t in
    let amount = amount_of u in
    let code = discrepancy_code what in
    let parts = codes "DIS" ∷ flight ∷ when ∷ u.here ∷ code ∷ amount ∷ [] in
    let cut : fields (sent_status_text (sent.Differs what f t) u) ≡ parts =
    cut_six (codes "DIS") flight when u.here code amount refl (clean_of 7 flight (flight_code f s.0)) (clean_of 9 when (when_code t s.1)) (clean_of 3 u.here (airport_code u.here h.here))
    (discrepancy_clean what) (amount_clean u h) in
    status_is (sent_status_text (sent.Differs what f t) u) parts cut
    ∙ differs_from flight when u.here code amount f (timed t) what (written_quantity u) (flight_again f s.0) (date_and_time t s.1 s.2) (airport_again u.here h.here)
    (discrepancy_again what) (amount_again u h)

pub status_again : (u : SentUpdate) (status : SentStatus) → IsUpdate u → IsSent status → status_of (sent_status_text status u) ≡ Some (sent_status_reading status u)
status_again u (sent.Handled what t name) h s = handled_again u what t name h s
status_again u (sent.ReceivedFromFlight f t) h s = received_again u f t h s
status_again u (sent.Carried what f d to) h s = carried_again u what f d to h s
status_again u (sent.Differs what f t) h s = differs_again u what f t h s
