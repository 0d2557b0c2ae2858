use Rattle.input_reasons.proofs.Common.{numbered_head, rules, string_bytes, ◌<◌, ◌^◌, ◌∙◌, ◌≡◌}
use Rattle.input_reasons.proofs.Told.{headed, of_line}
use Rattle.input_reasons.proofs.shown.numbered.Goals as goal

pub returns-clause-number : goal.returns-clause-number
returns-clause-number c =
    let is : c.as_str.result.now ≡ string_bytes c.in_ok-head.head = search rules in
    headed string_bytes c.reason_line.result c.as_str.result.now (numbered_head c.args.number) (is ∙ c.in_ok-head.ensures.ok) c.reason_line.ensures

pub returns-clause-line : goal.returns-clause-line
returns-clause-line c =
    let is : c.as_str.result.now ≡ string_bytes c.in_ok-head.head = search rules in
    let small : c.args.number < 2 ^ 64 = search rules in
    of_line string_bytes c.reason_line.result c.args.number small
    (headed string_bytes c.reason_line.result c.as_str.result.now (numbered_head c.args.number) (is ∙ c.in_ok-head.ensures.ok) c.reason_line.ensures)
