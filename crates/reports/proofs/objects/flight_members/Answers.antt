use Rattle.reports.proofs.Common.{List, ap, codes, compact_text, flight_text, rules, string, string_bytes, told, ℕ, ◌++◌, ◌∙◌, ◌≡◌}
use Rattle.serde_json.proofs.OnLiterals.{serde_json_on_literals}
use Rattle.reports.proofs.objects.flight_members.Goals as goal

pub returns : goal.returns
unfolding serde_json_on_literals
returns c =
    let text : List ℕ → List ℕ = λ t. compact_text (string t) in
    let flight_is : c.as_str.result.now ≡ flight_text c.args.flight.now.flight = search rules in
    let flight = c.in_ok-flight.ensures ∙ ap text flight_is in
    told string_bytes c.format.result _ _
    (λ i. codes "\"flight\":" ++ (flight i ++ (codes ",\"date\":" ++ c.in_ok-date.ensures i)))
    c.format.ensures.ok
