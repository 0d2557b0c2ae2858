use Rattle.http_desk.proofs.Common.{good_data, rules, the_lemmas, view, ◌≡◌}
use Rattle.http_desk.proofs.answer.good_text.Goals as goal

pub returns : goal.returns
returns c =
    let built : view c.in_ok-json.field-0 ≡ good_data = search (rules, the_lemmas) in
    search rules
