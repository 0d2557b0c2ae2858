use Rattle.http_desk.proofs.Common.{bad_data, rules, the_lemmas, view, ◌≡◌}
use Rattle.http_desk.proofs.answer.bad_text.Goals as goal

pub returns : goal.returns
returns c =
    let built : view c.in_ok-json.field-0 ≡ bad_data c.args.reason.now = search (rules, the_lemmas) in
    search rules
