-- Reasons that are written.
use Rattle.input_reasons.proofs.Common.{Err, HasReason, IfErr, IfOk, IsReason, IsTrue, List, Ok, OnOk, Result, [], ap, append_assoc, arith, codes, decimal, is_printable, le-leb, length, list_all, list_all-append, numbered_head, refl, subst, sym, true, ℕ, ◌++◌, ◌<◌, ◌^◌, ◌∙◌, ◌∷◌, ◌≡◌}
use Rattle.awb_number.specs.Number.{is_digit}
use Rattle.awb_number.proofs.Padded.{is_digit_bounds}
use Rattle.imp_fields.proofs.WrittenLaws.{all_weaker, decimal_digits}
use Rattle.station_core.specs.Ends.{Sent}
use Rattle.station_core.specs.Given.{Given}

append_none : (xs : List ℕ) → xs ++ [] ≡ xs
append_none [] = refl
append_none (x ∷ xs) = ap (λ ys. x ∷ ys) (append_none xs)

-- nothing was written
pub none_told : (head bytes : List ℕ) → HasReason head bytes bytes
none_told head bytes = (head ++ ([] ++ 10 ∷ []), ([], refl, refl), (0, sym (append_none bytes)))

-- all of it, or a beginning
pub sent_told : (head line : List ℕ) (old new : Given) (r : Result (Unit {0}) ℕ) → OnOk r (Sent old new line (length line))
    → IfErr r (Sent old new line) → IsReason head line → HasReason head old.bytes new.bytes
sent_told head line old new (Ok x) all part is = (line, is, (length line, all.1))
sent_told head line old new (Err n) all part is = (line, is, (n, part.1))

-- a line that was made of a head and printable words
pub made : {T E : Type 0} (shown : T → List ℕ) (r : Result T E) (head words : List ℕ) → IsTrue (list_all is_printable words)
    → IfOk r (λ line. shown line ≡ head ++ (words ++ 10 ∷ [])) → IfOk r (λ line. IsReason head (shown line))
made shown (Ok line) head words all is = (words, all, is)
made shown (Err e) head words all is = tt

-- the same line, by what its head is
pub headed : {T E : Type 0} (shown : T → List ℕ) (r : Result T E) (head other : List ℕ) → head ≡ other → IfOk r (λ line. IsReason head (shown line)) → IfOk r (λ line. IsReason other (shown line))
headed shown r head other same is = subst (λ h. IfOk r (λ line. IsReason h (shown line))) same is

digit_shows : (b : ℕ) → is_digit b ≡ true → is_printable b ≡ true
digit_shows b h =
    let bounds = is_digit_bounds b h in
    rw (le-leb 32 b (omega (arith, bounds)), le-leb b 126 (omega (arith, bounds))) refl

number_shows : (n : ℕ) → n < 2 ^ 64 → (words : List ℕ) → list_all is_printable words ≡ true → list_all is_printable ((decimal n ++ codes ": ") ++ words) ≡ true
number_shows n lt words all =
    list_all-append is_printable (decimal n ++ codes ": ") words
    ∙ rw (list_all-append is_printable (decimal n) (codes ": "), all_weaker is_digit is_printable digit_shows (decimal n) (decimal_digits n lt), all) refl

-- the reason of a line with a number is one of a line
pub of_line : {T E : Type 0} (shown : T → List ℕ) (r : Result T E) (n : ℕ) → n < 2 ^ 64 → IfOk r (λ line. IsReason (numbered_head n) (shown line)) → IfOk r (λ line. IsReason (codes "line ") (shown line))
of_line shown (Ok line) n lt (words, all, is) = (
  (decimal n ++ codes ": ") ++ words,
  number_shows n lt words all,
  is ∙ append_assoc (codes "line ") (decimal n ++ codes ": ") (words ++ 10 ∷ []) ∙ ap (λ xs. codes "line " ++ xs) (sym (append_assoc (decimal n ++ codes ": ") words (10 ∷ []))),
)
of_line shown (Err e) n lt is = tt
