-- The lines of a message below the second.
use Rattle.std.proofs.Common.{◌≡◌, ◌∙◌, ap, sym, ℕ, suc, ◌+◌, ◌-◌, ◌<◌, true, false, List, [], ◌∷◌, ◌++◌, length, get_or, drop, map, inl, inr, arith, append_assoc}
use Rattle.input_reasons.proofs.Common.{Content, InboundLine, LinePart, SeenLine, cases_Bool, eq-eqb, eqb-true, left_behind, length-drop, length-map, list_all, list_all_at, lower_lines, lower_part, ne_eqb, seen_line, ◌==◌}
use Rattle.std.proofs.Math.Seq.{drop-cons}
use Rattle.imp_fields.specs.Fields.{is_line_token}
use Rattle.imp_fields.specs.declared.line.Token.{Token}

abbrev pub texts : List Token → List (List ℕ)
texts tokens = map (λ (t : Token). t.text.now) tokens

pub printable_at : (tokens : List Token) (i : ℕ) (d : Token) → list_all is_line_token tokens ≡ true → i < length tokens → is_line_token (get_or tokens i d) ≡ true
printable_at tokens i d all lt =
    elim (cases_Bool (is_line_token (get_or tokens i d))) [
      | inl holds ↦ holds
      | inr fails ↦ absurd (let both : true ≡ false = sym all ∙ list_all_at is_line_token tokens i d lt fails in cc)
    ]

same_tests : (a b c d : ℕ) → (a ≡ b → c ≡ d) → (c ≡ d → a ≡ b) → (a == b) ≡ (c == d)
same_tests a b c d to from =
    elim (cases_Bool (a == b)) [
      | inl holds ↦ holds ∙ sym (eq-eqb c d (to (eqb-true a b holds)))
      | inr fails ↦
          fails ∙ sym (ne_eqb c d (λ same. let holds : (a == b) ≡ true = eq-eqb a b (from same) in let both : true ≡ false = sym holds ∙ fails in cc))
    ]

-- the last of the lines has none below it
pub last_is : (tokens : List Token) (i n : ℕ) → i < length tokens → n ≡ i + 2 → (n + 1 == length tokens + 2) ≡ (length (texts (drop (i + 1) tokens)) == 0)
last_is tokens i n lt at =
    let rest : length (texts (drop (i + 1) tokens)) ≡ length tokens - (i + 1) = length-map (drop (i + 1) tokens) (λ (t : Token). t.text.now) ∙ length-drop (i + 1) tokens in
    same_tests (n + 1) (length tokens + 2) (length (texts (drop (i + 1) tokens))) 0
    (λ e. omega (arith, e, at, rest, lt)) (λ e. omega (arith, e, at, rest, lt))

-- the lines from a place on, with that of the place in front
pub lower_step : (says : Content) (left : List InboundLine) (tokens : List Token) (i : ℕ) (d : Token) → i < length tokens
    → lower_lines says (i + 3) left (texts (drop i tokens))
    ≡ seen_line (i + 3) (lower_part says left (get_or tokens i d).text.now (length (texts (drop (i + 1) tokens)) == 0)) (get_or tokens i d).text.now
    ∷ lower_lines says (i + 1 + 3) (left_behind (get_or tokens i d).text.now left) (texts (drop (i + 1) tokens))
lower_step says left tokens i d lt =
    let one : suc i ≡ i + 1 = omega arith in
    let next : i + 3 + 1 ≡ i + 1 + 3 = omega arith in
    let line : List ℕ = (get_or tokens i d).text.now in
    let rest : List (List ℕ) = texts (drop (i + 1) tokens) in
    ap (λ ts. lower_lines says (i + 3) left (texts ts)) (drop-cons tokens i d lt ∙ ap (λ k. get_or tokens i d ∷ drop k tokens) one)
    ∙ ap (λ k. seen_line (i + 3) (lower_part says left line (length rest == 0)) line ∷ lower_lines says k (left_behind line left) rest) next

pub lower_next : (says : Content) (left : List InboundLine) (tokens : List Token) (i n : ℕ) (d : Token) (old new all : List SeenLine) (seen : SeenLine) (part : LinePart) → i < length tokens → n ≡ i + 2
    → new ≡ old ++ seen ∷ [] → seen ≡ seen_line (n + 1) part (get_or tokens i d).text.now
    → part ≡ lower_part says left (get_or tokens i d).text.now (n + 1 == length tokens + 2)
    → old ++ lower_lines says (i + 3) left (texts (drop i tokens)) ≡ all
    → new ++ lower_lines says (i + 1 + 3) (left_behind (get_or tokens i d).text.now left) (texts (drop (i + 1) tokens)) ≡ all
lower_next says left tokens i n d old new all seen part lt at more is part_is so_far =
    let line : List ℕ = (get_or tokens i d).text.now in
    let below = lower_lines says (i + 1 + 3) (left_behind line left) (texts (drop (i + 1) tokens)) in
    let number : n + 1 ≡ i + 3 = omega (arith, at) in
    let same = is ∙ ap (λ p. seen_line (n + 1) p line) part_is ∙ ap (λ last. seen_line (n + 1) (lower_part says left line last) line) (last_is tokens i n lt at)
    ∙ ap (λ k. seen_line k (lower_part says left line (length (texts (drop (i + 1) tokens)) == 0)) line) number in
    ap (λ ls. ls ++ below) more ∙ append_assoc old (seen ∷ []) below ∙ ap (λ l. old ++ l ∷ below) same
    ∙ ap (λ ls. old ++ ls) (sym (lower_step says left tokens i d lt)) ∙ so_far
