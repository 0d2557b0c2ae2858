-- Texts that are appended one behind the other.
use Rattle.ffm_text.proofs.Common.{Begins, Err, List, Ok, OnOk, Result, [], ap, append-nil, append_assoc, arith, get_or, length, length-append, line_text, map, map-append, refl, sent_text, sym, take, take-take, take_at, take_more, ℕ, ◌++◌, ◌+◌, ◌<◌, ◌∙◌, ◌∷◌, ◌≡◌, ◌≤◌}

pub joined : (old was now a b : List ℕ) → was ≡ old ++ a → now ≡ was ++ b → now ≡ old ++ (a ++ b)
joined old was now a b first next = next ∙ ap (λ t. t ++ b) first ∙ append_assoc old a b

pub joined_last : {T E : Type 0} (r : Result T E) (old was now a b : List ℕ) → was ≡ old ++ a → OnOk r (now ≡ was ++ b) → OnOk r (now ≡ old ++ (a ++ b))
joined_last (Ok x) old was now a b first next = joined old was now a b first next
joined_last (Err e) old was now a b first next = tt

-- the same where the last text is a line's end
pub joined_line : {T E : Type 0} (r : Result T E) (old was now a b : List ℕ) → was ≡ old ++ a → OnOk r (now ≡ was ++ line_text b) → OnOk r (now ≡ old ++ line_text (a ++ b))
joined_line (Ok x) old was now a b first next = joined old was now a (line_text b) first next ∙ ap (λ t. old ++ t) (sym (append_assoc a b (13 ∷ 10 ∷ [])))
joined_line (Err e) old was now a b first next = tt

pub begins_behind : (old was now more : List ℕ) → was ≡ old ++ more → Begins was now → Begins old now
begins_behind old was now more e h =
    let len : length old ≤ length was = omega (arith, ap length e, length-append old more) in
    sym (take-take (length old) (length was) now len) ∙ ap (take (length old)) (h ∙ e) ∙ take_at old more (length old) refl

sent_more : (lines : List (List ℕ)) (line : List ℕ) → sent_text (lines ++ line ∷ []) ≡ sent_text lines ++ line_text line
sent_more [] line = append-nil (line_text line)
sent_more (l ∷ lines) line = ap (λ t. line_text l ++ t) (sent_more lines line) ∙ sym (append_assoc (line_text l) (sent_text lines) (line_text line))

pub sent_one_more : {A : Type 0} (text : A → List ℕ) (xs : List A) (i : ℕ) (d : A) (old was now : List ℕ) → i < length xs
    → was ≡ old ++ sent_text (map text (take i xs)) → now ≡ was ++ line_text (text (get_or xs i d)) → now ≡ old ++ sent_text (map text (take (i + 1) xs))
sent_one_more text xs i d old was now lt first next =
    let lines : map text (take (i + 1) xs) ≡ map text (take i xs) ++ text (get_or xs i d) ∷ [] =
    ap (map text) (take_more xs i d lt) ∙ map-append text (take i xs) (get_or xs i d ∷ []) in
    joined old was now (sent_text (map text (take i xs))) (line_text (text (get_or xs i d))) first next
    ∙ ap (λ t. old ++ t) (sym (ap sent_text lines ∙ sent_more (map text (take i xs)) (text (get_or xs i d))))

-- the lines of a manifest, and then its last
pub sent_last : {T E : Type 0} (r : Result T E) (lines : List (List ℕ)) (line old was now : List ℕ) → was ≡ old ++ sent_text lines → OnOk r (now ≡ was ++ line_text line)
    → OnOk r (now ≡ old ++ sent_text (lines ++ line ∷ []))
sent_last (Ok x) lines line old was now first next = joined old was now (sent_text lines) (line_text line) first next ∙ ap (λ t. old ++ t) (sym (sent_more lines line))
sent_last (Err e) lines line old was now first next = tt

-- a line behind the lines
pub sent_next : (lines : List (List ℕ)) (line old was now : List ℕ) → was ≡ old ++ sent_text lines → now ≡ was ++ line_text line → now ≡ old ++ sent_text (lines ++ line ∷ [])
sent_next lines line old was now first next = joined old was now (sent_text lines) (line_text line) first next ∙ ap (λ t. old ++ t) (sym (sent_more lines line))

sent_append : (lines more : List (List ℕ)) → sent_text (lines ++ more) ≡ sent_text lines ++ sent_text more
sent_append [] more = refl
sent_append (l ∷ lines) more = ap (λ t. line_text l ++ t) (sent_append lines more) ∙ sym (append_assoc (line_text l) (sent_text lines) (sent_text more))

pub sent_others : (lines more : List (List ℕ)) (old was now : List ℕ) → was ≡ old ++ sent_text lines → now ≡ was ++ sent_text more → now ≡ old ++ sent_text (lines ++ more)
sent_others lines more old was now first next = joined old was now (sent_text lines) (sent_text more) first next ∙ ap (λ t. old ++ t) (sym (sent_append lines more))
