-- The text of a message names its waybills.
use Rattle.std.proofs.Common.{◌≡◌, ◌∙◌, refl, sym, ap, subst, arith, ℕ, ◌+◌, ◌≤◌, ◌<◌, ◌==◌, true, false, true≢false, ◌||◌, List, [], ◌∷◌, ◌++◌, length, map, take, drop, get_or, codes, append_assoc}
use Rattle.std.specs.List.{list_any, range_with_len}
use Rattle.std.specs.Str.{bytes_eq}
use Rattle.std.proofs.lemmas.Bool.{eqb-true}
use Rattle.std.proofs.lemmas.List.{take_all, drop_all, take-append-le, drop-append-le, length-append}
use Rattle.std.proofs.lemmas.List.Folds.{list_any_at}
use Rattle.std.proofs.lemmas.List.FromFn.{length-range_with_len, get_or-range_with_len}
use Rattle.std.proofs.lemmas.Slice.Eq.{bytes_eq-Decides}
use Rattle.awb_number.specs.Number.{number_text}
use Rattle.station_days.specs.Date.{date_on}
use Rattle.imp_fields.specs.Message.{WrittenLine, consignment_text, goods_text, quantity_text, sent_text}
use Rattle.ffm_text.specs.Ffm.{cargo_of, flight_line_text}
use Rattle.ffm_text.specs.declared.Load.{Load}
use Rattle.fsu_text.specs.Fsu.{declared_cargo, sent_status_text}
use Rattle.shipment_machine.specs.declared.notice.ManifestLine.{ManifestLine}
use Rattle.shipment_machine.specs.declared.notice.Notice.{Notice}
use Rattle.shipment_machine.specs.declared.notice.Notice.TheVariants as notice
use Rattle.telegrams.specs.Meaning.{notice_text, sent_load, sent_update, status_of_event}
use Rattle.carried_station.specs.Carried.{is_within, names}
use Rattle.carried_station.specs.Laws.{is_of}

-- bytes stand in a text that has them after others
within_here : (before part after : List ℕ) → 1 ≤ length part → is_within part (before ++ (part ++ after)) ≡ true
within_here before part after some =
    let text : List ℕ = before ++ (part ++ after) in
    let n : ℕ = length before in
    let fits : n < length text = omega (arith, length-append before (part ++ after), length-append part after) in
    let at : get_or (range_with_len 0 (length text)) n 0 ≡ n = get_or-range_with_len 0 (length text) n 0 fits ∙ plus_zero n in
    let rest : drop n text ≡ part ++ after = drop-append-le n before (part ++ after) (omega arith) ∙ ap (λ xs. xs ++ (part ++ after)) (drop_all n before (omega arith)) in
    let front : take (length part) (drop n text) ≡ part = ap (take (length part)) rest ∙ take-append-le (length part) part after (omega arith) ∙ take_all (length part) part (omega arith) in
    list_any_at (λ k. bytes_eq (take (length part) (drop k text)) part) (range_with_len 0 (length text)) n 0 (omega (arith, length-range_with_len 0 (length text), fits))
    (ap (λ k. bytes_eq (take (length part) (drop k text)) part) at ∙ (bytes_eq-Decides (take (length part) (drop n text)) part).1 front)
  where
    plus_zero : (n : ℕ) → 0 + n ≡ n
    plus_zero n = omega arith

-- the bytes of a line, and of those after it
sent_more : (line : List ℕ) (lines : List (List ℕ)) → sent_text (line ∷ lines) ≡ line ++ (13 ∷ (10 ∷ sent_text lines))
sent_more line lines = append_assoc line (13 ∷ (10 ∷ [])) (sent_text lines)

-- a line after the first begins behind a newline
begins_behind : (first : List ℕ) (before lines : List (List ℕ)) → (front : List ℕ) × (sent_text ((first ∷ before) ++ lines) ≡ front ++ (10 ∷ sent_text lines))
begins_behind first [] lines = (first ++ (13 ∷ []), sent_more first lines ∙ sym (append_assoc first (13 ∷ []) (10 ∷ sent_text lines)))
begins_behind first (second ∷ before) lines =
    let more = begins_behind second before lines in
    (first ++ (13 ∷ (10 ∷ more.0)), sent_more first ((second ∷ before) ++ lines) ∙ ap (λ xs. first ++ (13 ∷ (10 ∷ xs))) more.1 ∙ sym (append_assoc first (13 ∷ (10 ∷ more.0)) (10 ∷ sent_text lines)))

-- a message names the waybill whose number begins a line after its first
named_by : (w : ℕ) (first rest line : List ℕ) (before after : List (List ℕ)) → line ≡ number_text w ++ rest → names w (sent_text ((first ∷ before) ++ (line ∷ after))) ≡ true
named_by w first rest line before after begins =
    let found = begins_behind first before (line ∷ after) in
    let tail : List ℕ = 13 ∷ (10 ∷ sent_text after) in
    let told : sent_text (line ∷ after) ≡ number_text w ++ (rest ++ tail) = sent_more line after ∙ ap (λ xs. xs ++ tail) begins ∙ append_assoc (number_text w) rest tail in
    ap (names w) (found.1 ∙ ap (λ xs. found.0 ++ (10 ∷ xs)) told)
    ∙ within_here found.0 (10 ∷ number_text w) (rest ++ tail) (omega arith)

-- a line of cargo begins with the number
rest_of : WrittenLine → List ℕ
rest_of c = c.origin ++ c.destination ++ (47 ∷ []) ++ quantity_text c.code c.pieces c.tenths c.total ++ goods_text c.goods

begins_with : (c : WrittenLine) → consignment_text c ≡ number_text c.awb ++ rest_of c
unfolding rest_of
begins_with c = over (number_text c.awb) c.origin c.destination (47 ∷ []) (quantity_text c.code c.pieces c.tenths c.total) (goods_text c.goods)
  where
    over : (n o d s q g : List ℕ) → n ++ o ++ d ++ s ++ q ++ g ≡ n ++ (o ++ d ++ s ++ q ++ g)
    over n o d s q g =
        ap (λ xs. xs ++ s ++ q ++ g) (append_assoc n o d)
        ∙ ap (λ xs. xs ++ q ++ g) (append_assoc n (o ++ d) s)
        ∙ ap (λ xs. xs ++ g) (append_assoc n (o ++ d ++ s) q)
        ∙ append_assoc n (o ++ d ++ s ++ q) g

abbrev load_text : ManifestLine → List ℕ
load_text l = consignment_text (cargo_of (sent_load l))

abbrev cargo_lines : List ManifestLine → List (List ℕ)
cargo_lines lines = map (λ (l : Load). consignment_text (cargo_of l)) (map sent_load lines)

-- a manifest names each of its waybills
among : (w : ℕ) (first : List ℕ) (before : List (List ℕ)) (lines : List ManifestLine) (after : List (List ℕ)) → list_any (λ (l : ManifestLine). l.consigned.awb == w) lines ≡ true
    → names w (sent_text ((first ∷ before) ++ (cargo_lines lines ++ after))) ≡ true
among w first before [] after h = absurd (true≢false (sym h))
among w first before (l ∷ lines) after h = elim (l.consigned.awb == w) as (λ b. (l.consigned.awb == w) ≡ b → (b || list_any (λ (l : ManifestLine). l.consigned.awb == w) lines) ≡ true
    → names w (sent_text ((first ∷ before) ++ (load_text l ∷ (cargo_lines lines ++ after)))) ≡ true) [
      | true ↦ λ is _. subst (λ v. names v (sent_text ((first ∷ before) ++ (load_text l ∷ (cargo_lines lines ++ after)))) ≡ true) (eqb-true l.consigned.awb w is) (named_by l.consigned.awb first (rest_of (cargo_of (sent_load l))) (load_text l) before (cargo_lines lines ++ after) (begins_with (cargo_of (sent_load l))))
      | false ↦ λ _ h. ap (λ ls. names w (sent_text (first ∷ ls))) (sym (append_assoc before (load_text l ∷ []) (cargo_lines lines ++ after))) ∙ among w first (before ++ (load_text l ∷ [])) lines after h
    ] refl h

pub named : (w : ℕ) (n : Notice) → is_of w n ≡ true → names w (notice_text n) ≡ true
named w (notice.Status here consigned event pieces tenths) h =
    subst (λ v. names v (notice_text (notice.Status here consigned event pieces tenths)) ≡ true) (eqb-true consigned.awb w h)
    (named_by consigned.awb (codes "FSU/12") (rest_of (declared_cargo consigned)) (consignment_text (declared_cargo consigned)) [] (sent_status_text (status_of_event event) (sent_update here consigned event pieces tenths) ∷ []) (begins_with (declared_cargo consigned)))
named w (notice.Manifest here flight unload lines) h = among w (codes "FFM/8") (flight_line_text flight.flight (date_on flight.day) here ∷ unload ∷ []) lines (codes "LAST" ∷ []) h
