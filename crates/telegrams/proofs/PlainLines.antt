-- What is known of the lines of a normal text: they are printable, and so are the fields in them.
use Rattle.telegrams.proofs.Common.{AllZip, Bool, FfmLine, HasSpans, List, StatusLine, Token, [], and_from, and_parts, ap, append_assoc, arith, cond, drop, false, filter, get_or, has_plain_cargo, has_plain_goods, inbound_line, is_cargo_line, is_line, is_printable, is_text_byte, length, length-map, list_all, manifest_of, map, map-append, normal_text, part_content, refl, slice_get, status_content, suc, sym, take, take-append-drop, take_more, true, unloaded_of, unwrap_or, update_of, ℕ, ◌++◌, ◌+◌, ◌-◌, ◌<◌, ◌==◌, ◌||◌, ◌∙◌, ◌∷◌, ◌≡◌, ◌≤◌}
use Rattle.std.proofs.lemmas.List.Folds.{list_all-append, list_all-map}
use Rattle.imp_fields.specs.Fields.{is_line_token}
use Rattle.imp_fields.specs.declared.line.Consignment.{Consignment}
use Rattle.imp_fields.proofs.NameLaws.{list_all-take}
use Rattle.ffm_text.specs.declared.Ffm.{Ffm}
use Rattle.fsu_text.specs.declared.sent.Fsu.{Fsu}
use Rattle.shipment_machine.specs.declared.command.InboundLine.{InboundLine}
use Rattle.telegrams.specs.declared.telegram.PartContent.{PartContent}
use Rattle.telegrams.specs.declared.telegram.StatusContent.{StatusContent}

abbrev texts : List Token → List (List ℕ)
texts tokens = map (λ t. t.text.now) tokens

pub plain_texts : (tokens : List Token) → list_all is_line_token tokens ≡ true → list_all is_line (texts tokens) ≡ true
plain_texts tokens h = list_all-map is_line (λ (t : Token). t.text.now) tokens ∙ h

pub few_texts : (tokens : List Token) → length tokens ≤ 1000 → length (texts tokens) ≤ 1000
few_texts tokens few = omega (arith, few, length-map tokens (λ (t : Token). t.text.now))

list_all-drop : {X : Type 0} (p : X → Bool) (n : ℕ) (xs : List X) → list_all p xs ≡ true → list_all p (drop n xs) ≡ true
list_all-drop p n xs all =
    (and_parts _ _ (sym (list_all-append p (take n xs) (drop n xs)) ∙ ap (list_all p) (take-append-drop n xs) ∙ all)).1

list_all-filter : {X : Type 0} (p q : X → Bool) (xs : List X) → list_all p xs ≡ true → list_all p (filter q xs) ≡ true
list_all-filter p q [] h = refl
list_all-filter p q (x ∷ xs) h =
    let parts = and_parts (p x) (list_all p xs) h in
    let rest = list_all-filter p q xs parts.1 in
    elim (q x) as (λ b. list_all p (cond b (x ∷ filter q xs) (filter q xs)) ≡ true) [ true ↦ and_from _ _ parts.0 rest | false ↦ rest ]

-- the goods are a part of the line
plain_goods : (line : List ℕ) (c : Consignment) → is_line line ≡ true → HasSpans line c → has_plain_goods c ≡ true
plain_goods line c h spans =
    let goods = spans.goods.0 in
    ap (list_all is_printable) goods.bytes
    ∙ list_all-take is_printable (c.goods.end - c.goods.start) (drop c.goods.start line)
    (list_all-drop is_printable c.goods.start line (and_parts _ _ h).0)

second_line : (lines : List (List ℕ)) → list_all is_line lines ≡ true → is_line (unwrap_or (slice_get lines 1) []) ≡ true
second_line [] h = refl
second_line (line ∷ []) h = refl
second_line (line ∷ next ∷ lines) h = (and_parts _ _ (and_parts _ _ h).1).0

pub second_plain : (tokens : List Token) (c : Consignment) → list_all is_line_token tokens ≡ true → HasSpans (unwrap_or (slice_get (texts tokens) 1) []) c → has_plain_goods c ≡ true
second_plain tokens c h spans = plain_goods _ c (second_line (texts tokens) (plain_texts tokens h)) spans

cargo_of_lines : (lines : List (List ℕ)) (cargo : List FfmLine) → list_all is_line lines ≡ true → AllZip HasSpans lines (map (λ l. l.consignment) cargo)
    → list_all has_plain_cargo cargo ≡ true
cargo_of_lines [] [] h spans = refl
cargo_of_lines [] (l ∷ cargo) h spans = absurd spans
cargo_of_lines (line ∷ lines) [] h spans = absurd spans
cargo_of_lines (line ∷ lines) (l ∷ cargo) h spans =
    let parts = and_parts _ _ h in
    and_from _ _ (plain_goods line l.consignment parts.0 spans.0) (cargo_of_lines lines cargo parts.1 spans.1)

pub plain_cargo : (tokens : List Token) (cargo : List FfmLine) → list_all is_line_token tokens ≡ true
    → AllZip HasSpans (filter is_cargo_line (drop 2 (texts tokens))) (map (λ l. l.consignment) cargo) → list_all has_plain_cargo cargo ≡ true
plain_cargo tokens cargo h spans =
    cargo_of_lines (filter is_cargo_line (drop 2 (texts tokens))) cargo
    (list_all-filter is_line is_cargo_line (drop 2 (texts tokens)) (list_all-drop is_line 2 (texts tokens) (plain_texts tokens h))) spans

zip_length : {A B : Type 0} (R : A → B → Type 0) (xs : List A) (ys : List B) → AllZip R xs ys → length ys ≤ length xs
zip_length R [] [] h = omega arith
zip_length R [] (y ∷ ys) h = absurd h
zip_length R (x ∷ xs) [] h = omega arith
zip_length R (x ∷ xs) (y ∷ ys) h = omega (arith, zip_length R xs ys h.1)

filter_length : {X : Type 0} (q : X → Bool) (xs : List X) → length (filter q xs) ≤ length xs
filter_length q [] = omega arith
filter_length q (x ∷ xs) =
    elim (q x) as (λ b. length (cond b (x ∷ filter q xs) (filter q xs)) ≤ length (x ∷ xs)) [ true ↦ omega (arith, filter_length q xs) | false ↦ omega (arith, filter_length q xs) ]

drop_length : {X : Type 0} (xs : List X) → length (drop 2 xs) ≤ length xs
drop_length [] = omega arith
drop_length (x ∷ []) = omega arith
drop_length (x ∷ y ∷ xs) = omega arith

pub few_cargo : (tokens : List Token) (cargo : List FfmLine) → length tokens ≤ 1000
    → AllZip HasSpans (filter is_cargo_line (drop 2 (texts tokens))) (map (λ l. l.consignment) cargo) → length cargo ≤ 1000
few_cargo tokens cargo few spans =
    let zipped = zip_length HasSpans (filter is_cargo_line (drop 2 (texts tokens))) (map (λ (l : FfmLine). l.consignment) cargo) spans in
    omega (arith, zipped, filter_length is_cargo_line (drop 2 (texts tokens)), drop_length (texts tokens), few, length-map cargo (λ (l : FfmLine). l.consignment), length-map tokens (λ (t : Token). t.text.now))

pub same_lines : (cargo : List FfmLine) → map (λ l. inbound_line (unloaded_of l)) cargo ≡ map inbound_line (map unloaded_of cargo)
same_lines [] = refl
same_lines (l ∷ cargo) = ap (λ ls. inbound_line (unloaded_of l) ∷ ls) (same_lines cargo)

-- ---- the trail

trail_texts : (trail : List StatusLine) → map (λ l. l.text.text.now) trail ≡ texts (map (λ l. l.text) trail)
trail_texts [] = refl
trail_texts (l ∷ trail) = ap (λ ts. l.text.text.now ∷ ts) (trail_texts trail)

pub plain_trail : (tokens : List Token) (trail : List StatusLine) → list_all is_line_token tokens ≡ true → map (λ l. l.text) trail ≡ drop 2 tokens
    → list_all is_line (map (λ l. l.text.text.now) trail) ≡ true
plain_trail tokens trail h same =
    ap (list_all is_line) (trail_texts trail) ∙ plain_texts (map (λ l. l.text) trail) (ap (list_all is_line_token) same ∙ list_all-drop is_line_token 2 tokens h)

pub few_trail : (tokens : List Token) (trail : List StatusLine) → length tokens ≤ 1000 → map (λ l. l.text) trail ≡ drop 2 tokens
    → length (map (λ l. l.text.text.now) trail) ≤ 1000
few_trail tokens trail few same =
    let dropped = ap length same in
    omega (arith, dropped, drop_length tokens, few, length-map trail (λ (l : StatusLine). l.text), length-map trail (λ (l : StatusLine). l.text.text.now))

-- ---- lines joined

pub joined_more : (first : List ℕ) (lines : List (List ℕ)) (line : List ℕ) → normal_text (first ∷ lines ++ line ∷ []) ≡ normal_text (first ∷ lines) ++ (10 ∷ line)
joined_more first [] line = refl
joined_more first (next ∷ lines) line =
    ap (λ t. first ++ (10 ∷ t)) (joined_more next lines line) ∙ sym (append_assoc first (10 ∷ normal_text (next ∷ lines)) (10 ∷ line))

pub joined_step : (lines rest : List Token) (first : Token) (i : ℕ) (d : Token) → lines ≡ first ∷ rest → i < length rest
    → normal_text (texts (take (i + 1 + 1) lines)) ≡ normal_text (texts (take (i + 1) lines)) ++ (10 ∷ (get_or rest i d).text.now)
joined_step lines rest first i d same lt =
    let two : i + 1 + 1 ≡ suc (i + 1) = omega arith in
    let one : i + 1 ≡ suc i = omega arith in
    let front : take (i + 1) lines ≡ first ∷ take i rest = ap (λ ls. take (i + 1) ls) same ∙ ap (λ k. take k (first ∷ rest)) one in
    let more : take (i + 1 + 1) lines ≡ first ∷ take i rest ++ get_or rest i d ∷ [] =
    ap (λ ls. take (i + 1 + 1) ls) same ∙ ap (λ k. take k (first ∷ rest)) two ∙ ap (λ ls. first ∷ ls) (take_more rest i d lt) in
    ap (λ ls. normal_text (texts ls)) more
    ∙ ap (λ ls. normal_text (first.text.now ∷ ls)) (map-append (λ (t : Token). t.text.now) (take i rest) (get_or rest i d ∷ []))
    ∙ joined_more first.text.now (texts (take i rest)) (get_or rest i d).text.now
    ∙ ap (λ ls. normal_text (texts ls) ++ (10 ∷ (get_or rest i d).text.now)) (sym front)

pub joined_next : (lines rest : List Token) (first : Token) (i : ℕ) (d : Token) (old new : List ℕ) → lines ≡ first ∷ rest → i < length rest
    → old ≡ normal_text (texts (take (i + 1) lines)) → new ≡ old ++ (10 ∷ (get_or rest i d).text.now) → new ≡ normal_text (texts (take (i + 1 + 1) lines))
joined_next lines rest first i d old new same lt is next =
    next ∙ ap (λ t. t ++ (10 ∷ (get_or rest i d).text.now)) is ∙ sym (joined_step lines rest first i d same lt)

text_of_printable : (b : ℕ) → is_printable b ≡ true → is_text_byte b ≡ true
text_of_printable b h = ap (λ p. p || (b == 10)) h

plain_bytes : (text : List ℕ) → list_all is_printable text ≡ true → list_all is_text_byte text ≡ true
plain_bytes [] h = refl
plain_bytes (b ∷ text) h =
    let parts = and_parts _ _ h in
    and_from _ _ (text_of_printable b parts.0) (plain_bytes text parts.1)

pub plain_normal : (lines : List (List ℕ)) → list_all is_line lines ≡ true → list_all is_text_byte (normal_text lines) ≡ true
plain_normal [] h = refl
plain_normal (line ∷ []) h = plain_bytes line (and_parts _ _ (and_parts _ _ h).0).0
plain_normal (line ∷ next ∷ lines) h =
    let parts = and_parts _ _ h in
    list_all-append is_text_byte line (10 ∷ normal_text (next ∷ lines))
    ∙ and_from _ _ (plain_bytes line (and_parts _ _ parts.0).0) (plain_normal (next ∷ lines) parts.1)

-- ---- what a message that was read says

abbrev part_of : Ffm → List InboundLine → PartContent
part_of p lines = record { sequence = p.sequence; flight = p.flight; date = p.date; loaded = p.loaded; lines = lines }

abbrev status_by : Fsu → List (List ℕ) → StatusContent
status_by m lines = record { awb = m.consignment.awb; lines = lines }

pub same_part : (p : Ffm) (lines : List InboundLine) → lines ≡ map inbound_line (map unloaded_of p.cargo.items)
    → part_of p lines ≡ part_content (manifest_of p)
same_part p lines same = ap (part_of p) same

pub same_status : (m : Fsu) (lines : List (List ℕ)) → lines ≡ map (λ l. l.text.text.now) m.trail.items
    → status_by m lines ≡ status_content (update_of m)
same_status m lines same = ap (status_by m) same
