use Rattle.reports.proofs.Common.{List, ap, codes, compact_text, rules, string, string_bytes, told, ℕ, ◌++◌, ◌∙◌, ◌≡◌}
use Rattle.serde_json.proofs.OnLiterals.{serde_json_on_literals}
use Rattle.reports.specs.Reports.{clock_text}
use Rattle.reports.proofs.objects.moment_members.Goals as goal

pub returns : goal.returns
unfolding serde_json_on_literals
returns c =
    let text : List ℕ → List ℕ = λ t. compact_text (string t) in
    let time_is : c.ascii_text.result.now ≡ clock_text c.args.at.now.minute = search rules in
    let time = c.in_ok-time.ensures ∙ ap text time_is in
    told string_bytes c.format.result _ _
    (λ i. codes "\"date\":" ++ (c.in_ok-date.ensures i ++ (codes ",\"time\":" ++ time i)))
    c.format.ensures.ok
