use Rattle.http_desk.proofs.Common.{List, arith, is_digit, length, list_all, rules, sym, take-append-drop, true, ℕ, ◌++◌, ◌-◌, ◌∙◌, ◌≡◌, ◌≤◌}
use Rattle.http_desk.proofs.FieldLaws.{told}
use Rattle.http_desk.proofs.request.number_told.Goals as goal

pub returns : goal.returns
returns c =
    let value : List ℕ = c.args.value.now in
    let front : List ℕ = c.split_at.result.0.now in
    let last : List ℕ = c.split_at.result.1.now in
    let parts : value ≡ front ++ last = sym (take-append-drop (length value - 1) value) ∙ (λ i. sym c.split_at.ensures.front i ++ sym c.split_at.ensures.back i) in
    let some : 1 ≤ length value = search rules in
    let one : length last ≡ 1 = omega (arith, some, c.split_at.ensures.back_len) in
    let few : length value ≤ 10 = omega arith in
    let digits : list_all is_digit front ≡ true = sym c.in_ok-front.ensures.digits in
    let digit : list_all is_digit last ≡ true = sym c.in_ok-last.ensures.digits in
    told front last value c.from.result c.from-2.result parts one some few digits digit (c.from.ensures ∙ c.in_ok-front.ensures.value) (c.from-2.ensures ∙ c.in_ok-last.ensures.value)
