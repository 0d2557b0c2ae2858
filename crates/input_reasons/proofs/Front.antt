-- The lines in front of a message.
use Rattle.std.proofs.Common.{◌≡◌, ℕ, ◌+◌, ◌-◌, ◌<◌, ◌≤◌, Bool, true, false, cond, List, [], ◌∷◌, ◌++◌, length, map, take, drop, Option, Some, None, Result, Ok, Err, refl, sym, ap, ◌∙◌, subst, inl, inr, arith, append_assoc, Bor}
use Rattle.input_reasons.proofs.Common.{TextFault, and_from, and_parts, cases_Bool, cases_lt, cond-false, cond-true, dropped_line, first_fault, from_line, from_message_line, front_lines, is_empty, is_line, is_message_line, is_newline, is_printable, last_while, le-leb, length-take, line_fault, line_without_end, lines_of, list_all, list_all-append, list_all-map, lt-ltb, map-append, nat_lt, normal_lines, not, onto_first, position, position_or_len, slice_split, suffix_len, take-append-drop, take-append-le, take_while, unless_fault}
use Rattle.std.proofs.lemmas.List.Splits.{slice_split_first}
use Rattle.std.proofs.lemmas.List.Sums.{take_while-cons}
use Rattle.imp_fields.specs.declared.fault.Why.TheVariants as why
use Rattle.imp_fields.proofs.FaultLaws.{AllNone, first_fault-none}
use Rattle.imp_fields.proofs.ListLaws.{position-some, position-append}

-- ---- a text that is cut at its first newline

pub cut_at : (text : List ℕ) (place : ℕ) → place ≡ position_or_len is_newline text → place < length text
    → slice_split is_newline text ≡ take place text ∷ slice_split is_newline (drop (place + 1) text)
cut_at text place e lt =
    subst (λ k. slice_split is_newline text ≡ take k text ∷ slice_split is_newline (drop (k + 1) text)) (sym e)
    (slice_split_first is_newline text 0 (subst (λ k. k < length text) e lt))

pub uncut : (text : List ℕ) → position_or_len is_newline text ≡ length text → slice_split is_newline text ≡ text ∷ []
uncut [] e = refl
uncut (b ∷ text) e = at (is_newline b) refl (uncut text)
  where
    at : (ends : Bool) → is_newline b ≡ ends → (position_or_len is_newline text ≡ length text → slice_split is_newline text ≡ text ∷ [])
        → slice_split is_newline (b ∷ text) ≡ (b ∷ text) ∷ []
    at true h whole = absurd (let none : position_or_len is_newline (b ∷ text) ≡ 0 = cond-false _ _ _ (ap not h) in omega (arith, e, none))
    at false h whole =
        let more : position_or_len is_newline (b ∷ text) ≡ 1 + position_or_len is_newline text = cond-true _ _ _ (ap not h) in
        let rest = whole (omega (arith, e, more)) in
        cond-false _ _ _ h ∙ ap (onto_first b) rest

-- ---- the lines before the first that begins a message

abbrev pub is_front : List ℕ → Bool
is_front line = not (is_message_line line)

abbrev pub texts : List ℕ → List (List ℕ)
texts bytes = map line_without_end (slice_split is_newline bytes)

-- one more line in front, one that begins the message, and a last line
pub next_front : (bytes line rest : List ℕ) → slice_split is_newline bytes ≡ line ∷ slice_split is_newline rest → is_message_line (line_without_end line) ≡ false
    → front_lines bytes ≡ line_without_end line ∷ front_lines rest
next_front bytes line rest e front =
    ap (λ lines. take_while is_front (map line_without_end lines)) e ∙ take_while-cons is_front (line_without_end line) (texts rest) ∙ cond-true _ _ _ (ap not front)

pub no_front : (bytes line : List ℕ) (rest : List (List ℕ)) → slice_split is_newline bytes ≡ line ∷ rest → is_message_line (line_without_end line) ≡ true → front_lines bytes ≡ []
no_front bytes line rest e begins =
    ap (λ lines. take_while is_front (map line_without_end lines)) e ∙ take_while-cons is_front (line_without_end line) (map line_without_end rest)
    ∙ cond-false _ _ _ (ap not begins)

pub last_front : (bytes : List ℕ) → slice_split is_newline bytes ≡ bytes ∷ [] → is_message_line (line_without_end bytes) ≡ false → front_lines bytes ≡ line_without_end bytes ∷ []
last_front bytes e front =
    ap (λ lines. take_while is_front (map line_without_end lines)) e ∙ take_while-cons is_front (line_without_end bytes) [] ∙ cond-true _ _ _ (ap not front)

pub front_next : (front new : List (Bor (List ℕ))) (text : Bor (List ℕ)) (bytes rest line behind : List ℕ) → new ≡ front ++ text ∷ [] → text.now ≡ line_without_end line
    → slice_split is_newline rest ≡ line ∷ slice_split is_newline behind → is_message_line text.now ≡ false
    → map (λ (l : Bor (List ℕ)). l.now) front ++ front_lines rest ≡ front_lines bytes → map (λ (l : Bor (List ℕ)). l.now) new ++ front_lines behind ≡ front_lines bytes
front_next front new text bytes rest line behind more is cut front_line so_far =
    let texts_of : List (Bor (List ℕ)) → List (List ℕ) = λ ls. map (λ (l : Bor (List ℕ)). l.now) ls in
    let step = next_front rest line behind cut (sym (ap is_message_line is) ∙ front_line) in
    ap (λ ls. texts_of ls ++ front_lines behind) more
    ∙ ap (λ ls. ls ++ front_lines behind) (map-append (λ (l : Bor (List ℕ)). l.now) front (text ∷ []))
    ∙ append_assoc (texts_of front) (text.now ∷ []) (front_lines behind)
    ∙ ap (λ t. texts_of front ++ t ∷ front_lines behind) is ∙ ap (λ ls. texts_of front ++ ls) (sym step) ∙ so_far

-- ---- what is made of the lines in front

pub all_lines : (front : List (Bor (List ℕ))) (lines : List (List ℕ)) → map (λ (l : Bor (List ℕ)). l.now) front ≡ lines → list_all is_line lines ≡ true
    → list_all (λ (l : Bor (List ℕ)). is_line l.now) front ≡ true
all_lines front lines e h = sym (list_all-map is_line (λ (l : Bor (List ℕ)). l.now) front) ∙ ap (list_all is_line) e ∙ h

pub all_dropped : (front : List (Bor (List ℕ))) (lines : List (List ℕ)) → map (λ (l : Bor (List ℕ)). l.now) front ≡ lines
    → map (λ (l : Bor (List ℕ)). dropped_line l.now) front ≡ map dropped_line lines
all_dropped front lines e = by_each front ∙ ap (map dropped_line) e
  where
    by_each : (front : List (Bor (List ℕ))) → map (λ (l : Bor (List ℕ)). dropped_line l.now) front ≡ map dropped_line (map (λ (l : Bor (List ℕ)). l.now) front)
    by_each [] = refl
    by_each (l ∷ front) = ap (λ ls. dropped_line l.now ∷ ls) (by_each front)

-- ---- the lines in front and those of the normal text are the lines of the telegram

pub record IsParted (bytes : List ℕ) (lines : List (List ℕ)) : Type 0 where
  pub whole : front_lines bytes ++ lines ≡ lines_of bytes
  pub printable : list_all is_line (front_lines bytes) ≡ true

are_lines : (lines : List (List ℕ)) → AllNone (map line_fault lines) → list_all is_line lines ≡ true
are_lines [] h = refl
are_lines (line ∷ lines) h = and_from _ _ (is_a_line line h.0) (are_lines lines h.1)
  where
    short : (text : List ℕ) → cond (nat_lt 255 (length text)) (Some why.Long) None ≡ None → length text ≤ 255
    short text e =
        elim (cases_lt 255 (length text)) [
          | inl lt ↦ absurd (let wrong : Some why.Long ≡ None = sym (cond-true _ _ _ (lt-ltb _ _ lt)) ∙ e in cc)
          | inr le ↦ le
        ]

    is_a_line : (text : List ℕ) → line_fault text ≡ None → is_line text ≡ true
    is_a_line text e =
        elim (cases_Bool (list_all is_printable text)) [
          | inl passes ↦ and_from _ _ passes (le-leb _ _ (short text (sym (cond-false _ _ _ (ap not passes)) ∙ e)))
          | inr fails ↦ absurd (let wrong : Some why.Byte ≡ None = sym (cond-true _ _ _ (ap not fails)) ∙ e in cc)
        ]

past : (test : Bool) (fault : TextFault) (r : Result (List (List ℕ)) TextFault) (lines : List (List ℕ)) → cond test (Err fault) r ≡ Ok lines → r ≡ Ok lines
past true fault r lines e = absurd cc
past false fault r lines e = e

past_faults : (fault : Option TextFault) (r : Result (List (List ℕ)) TextFault) (lines : List (List ℕ)) → unless_fault fault r ≡ Ok lines → (fault ≡ None) × (r ≡ Ok lines)
past_faults None r lines e = (refl, e)
past_faults (Some fault) r lines e = absurd cc

record IsFound (all : List (List ℕ)) (place : Option ℕ) (lines : List (List ℕ)) : Type 0 where
  k : ℕ
  found : place ≡ Some k
  behind : drop k all ≡ lines

found_at : (all : List (List ℕ)) (place : Option ℕ) (lines : List (List ℕ)) → from_line all place ≡ Ok lines → IsFound all place lines
found_at all None lines e = absurd cc
found_at all (Some k) lines e = record { k = k; found = refl; behind = cc }

front_is : (bytes : List ℕ) (k : ℕ) → position is_message_line (take 11 (lines_of bytes)) ≡ Some k → front_lines bytes ≡ take k (lines_of bytes)
front_is bytes k e =
    let all = texts bytes in
    let lines = lines_of bytes in
    let empty = last_while is_empty all in
    let whole : lines ++ empty ≡ all = take-append-drop (length all - suffix_len is_empty all) all in
    let cut : take 11 lines ++ (drop 11 lines ++ empty) ≡ all =
    sym (append_assoc (take 11 lines) (drop 11 lines) empty) ∙ ap (λ ls. ls ++ empty) (take-append-drop 11 lines) ∙ whole in
    let place : position is_message_line all ≡ Some k = ap (position is_message_line) (sym cut) ∙ position-append is_message_line (take 11 lines) (drop 11 lines ++ empty) k e in
    let first : position_or_len is_message_line all ≡ k = (position-some is_message_line all k place).0 in
    let within : k < length (take 11 lines) = (position-some is_message_line (take 11 lines) k e).1 in
    let le : k ≤ length lines = omega (arith, within, length-take 11 lines) in
    ap (λ n. take n all) first ∙ ap (take k) (sym whole) ∙ take-append-le k lines empty le

pub parted : (bytes : List ℕ) (lines : List (List ℕ)) → normal_lines bytes ≡ Ok lines → IsParted bytes lines
parted bytes lines e =
    let all = lines_of bytes in
    let sized = past (nat_lt 65_536 (length bytes)) _ _ lines e in
    let few = past (nat_lt 1000 (length all)) _ _ lines sized in
    let faultless = past_faults (first_fault 1 (map line_fault all)) (from_message_line all) lines few in
    let at = found_at all (position is_message_line (take 11 all)) lines faultless.1 in
    let front = front_is bytes at.k at.found in
    let printable = are_lines all (first_fault-none 1 (map line_fault all) faultless.0) in
    record {
      whole = ap (λ ls. ls ++ lines) front ∙ ap (λ ls. take at.k all ++ ls) (sym at.behind) ∙ take-append-drop at.k all;
      printable =
          ap (list_all is_line) front
          ∙ (and_parts _ _ (sym (list_all-append is_line (take at.k all) (drop at.k all)) ∙ ap (list_all is_line) (take-append-drop at.k all) ∙ printable)).0;
    }
