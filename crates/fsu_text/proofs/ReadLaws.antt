-- What the lines of a message say, once they were read one by one.
use Rattle.fsu_text.proofs.Common.{Bool, Err, IsFaultOf, IsFsu, List, None, Ok, Option, Quantity, Result, Some, Why, [], and_parts, ap, arith, codes, cond, consignment_by, consignment_of, drop, err_of, false, fault_at, first_fault, fsu_fault, get_or, has_consignment_shape, is_head, length, list_all, map, nat_le, number_of, or_else, quantity_of, quantity_part, refl, shipment_of, subst, take, true, unless_true, unless_true-holds, ℕ, ◌&&◌, ◌∙◌, ◌∷◌, ◌≡◌, ◌≤◌}
use Rattle.awb_number.specs.declared.awb.AwbFault.{AwbFault}
use Rattle.imp_fields.specs.Fields.{is_line_token}
use Rattle.imp_fields.specs.declared.line.Token.{Token}
use Rattle.imp_fields.specs.declared.fault.Why.TheVariants as why
use Rattle.imp_fields.specs.declared.fault.TextFault.{TextFault}
use Rattle.imp_fields.specs.declared.line.Consignment.{Consignment}
use Rattle.fsu_text.specs.declared.status.StatusLine.{StatusLine}
use Rattle.fsu_text.specs.Sent.{is_plain}

abbrev texts : List Token → List (List ℕ)
texts tokens = map (λ t. t.text.now) tokens

-- ---- faults

-- a consignment line's fault is never that memory ran out
never_memory_by : (line : List ℕ) (shape : Bool) (number : Result ℕ AwbFault) (quantity : Option Quantity)
    → cond shape (consignment_by line number quantity) (Err why.Consignment) ≡ Err why.Memory → ⊥
never_memory_by line false number quantity e = cc
never_memory_by line true (Err fault) quantity e = cc
never_memory_by line true (Ok awb) None e = cc
never_memory_by line true (Ok awb) (Some quantity) e = cc

never_memory : (line : List ℕ) → consignment_of line ≡ Err why.Memory → ⊥
never_memory line e = never_memory_by line (has_consignment_shape line) (number_of (take 12 line)) (quantity_of (quantity_part line)) e

is_told : (fault : Option TextFault) (line : ℕ) (reason : Why) → fault ≡ Some (fault_at line reason) → (reason ≡ why.Memory → ⊥) → IsFaultOf fault (fault_at line reason)
is_told fault line why.Size e never = e
is_told fault line why.Lines e never = e
is_told fault line why.Byte e never = e
is_told fault line why.Long e never = e
is_told fault line why.Kind e never = e
is_told fault line why.Ending e never = e
is_told fault line why.Head e never = e
is_told fault line why.Consignment e never = e
is_told fault line why.Number e never = e
is_told fault line why.Quantity e never = e
is_told fault line why.Weight e never = e
is_told fault line why.Date e never = e
is_told fault line why.Flight e never = e
is_told fault line why.Order e never = e
is_told fault line why.Memory e never = absurd (never refl)

-- the second line's fault is that of the message where the first line has none
second_fault : (tokens : List Token) (d : Token) (reason : Why) → 2 ≤ length tokens → is_head (codes "FSU") (get_or tokens 0 d).text.now ≡ true
    → consignment_of (get_or tokens 1 d).text.now ≡ Err reason → fsu_fault (texts tokens) ≡ Some (fault_at 2 reason)
second_fault [] d reason le head e = absurd (omega (arith, le))
second_fault (t ∷ []) d reason le head e = absurd (omega (arith, le))
second_fault (t ∷ u ∷ more) d reason le head e =
    let ending = cond (nat_le 3 (length (texts (t ∷ u ∷ more)))) None (Some (fault_at (length (texts (t ∷ u ∷ more))) why.Ending)) in
    let first : unless_true (is_head (codes "FSU") t.text.now) why.Head ≡ None = unless_true-holds (is_head (codes "FSU") t.text.now) why.Head head in
    let second : err_of (consignment_of u.text.now) ≡ Some reason = ap err_of e in
    ap (λ a. or_else (first_fault 1 (a ∷ err_of (consignment_of u.text.now) ∷ [])) ending) first
    ∙ ap (λ b. or_else (first_fault 1 (None ∷ b ∷ [])) ending) second

pub second_told : (items tokens : List Token) (d : Token) (reason : Why) → tokens ≡ items → 2 ≤ length tokens → is_head (codes "FSU") (get_or tokens 0 d).text.now ≡ true
    → consignment_of (get_or tokens 1 d).text.now ≡ Err reason → IsFaultOf (fsu_fault (texts items)) (fault_at 2 reason)
second_told items tokens d reason same le head e =
    subst (λ ts. IsFaultOf (fsu_fault (texts ts)) (fault_at 2 reason)) same
    (is_told (fsu_fault (texts tokens)) 2 reason (second_fault tokens d reason le head e)
    (λ memory. never_memory (get_or tokens 1 d).text.now (e ∙ ap (λ w. Err w) memory)))

-- ---- the message

lines_of_trail : (trail : List StatusLine) → map (λ l. l.text.text.now) trail ≡ texts (map (λ l. l.text) trail)
lines_of_trail [] = refl
lines_of_trail (l ∷ trail) = ap (λ ts. l.text.text.now ∷ ts) (lines_of_trail trail)

plain_by_tokens : (trail : List StatusLine) → list_all is_plain trail ≡ list_all is_line_token (map (λ l. l.text) trail)
plain_by_tokens [] = refl
plain_by_tokens (l ∷ trail) = ap (λ b. is_line_token l.text && b) (plain_by_tokens trail)

message_of : (tokens : List Token) (d : Token) (c : Consignment) (trail : List StatusLine) → 3 ≤ length tokens
    → is_head (codes "FSU") (get_or tokens 0 d).text.now ≡ true → consignment_of (get_or tokens 1 d).text.now ≡ Ok (shipment_of c)
    → map (λ l. l.text) trail ≡ drop 2 tokens
    → IsFsu (texts tokens) (record { shipment = shipment_of c; trail = map (λ l. l.text.text.now) trail })
message_of [] d c trail le head e same = absurd (omega (arith, le))
message_of (t ∷ []) d c trail le head e same = absurd (omega (arith, le))
message_of (t ∷ u ∷ []) d c trail le head e same = absurd (omega (arith, le))
message_of (t ∷ u ∷ v ∷ more) d c trail le head e same = (head, e, lines_of_trail trail ∙ ap texts same)

pub message_is : (items tokens : List Token) (d : Token) (c : Consignment) (trail : List StatusLine) → tokens ≡ items → 3 ≤ length tokens
    → is_head (codes "FSU") (get_or tokens 0 d).text.now ≡ true → consignment_of (get_or tokens 1 d).text.now ≡ Ok (shipment_of c)
    → map (λ l. l.text) trail ≡ drop 2 tokens
    → IsFsu (texts items) (record { shipment = shipment_of c; trail = map (λ l. l.text.text.now) trail })
message_is items tokens d c trail same le head e rest =
    subst (λ ts. IsFsu (texts ts) (record { shipment = shipment_of c; trail = map (λ l. l.text.text.now) trail })) same
    (message_of tokens d c trail le head e rest)

plain_behind : (tokens : List Token) → list_all is_line_token tokens ≡ true → list_all is_line_token (drop 2 tokens) ≡ true
plain_behind [] h = refl
plain_behind (t ∷ []) h = refl
plain_behind (t ∷ u ∷ more) h = (and_parts _ _ (and_parts _ _ h).1).1

pub trail_plain : (items tokens : List Token) (trail : List StatusLine) → tokens ≡ items → list_all is_line_token items ≡ true
    → map (λ l. l.text) trail ≡ drop 2 tokens → list_all is_plain trail ≡ true
trail_plain items tokens trail same plain rest =
    plain_by_tokens trail ∙ ap (list_all is_line_token) (rest ∙ ap (drop 2) same) ∙ plain_behind items plain
