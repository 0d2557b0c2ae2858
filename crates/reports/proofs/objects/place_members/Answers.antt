use Rattle.reports.proofs.Common.{List, ap, codes, compact_text, string, string_bytes, told, ℕ, ◌++◌, ◌∙◌}
use Rattle.serde_json.proofs.OnLiterals.{serde_json_on_literals}
use Rattle.reports.proofs.objects.place_members.Goals as goal

pub returns : goal.returns
unfolding serde_json_on_literals
returns c =
    let text : List ℕ → List ℕ = λ t. compact_text (string t) in
    let from = c.in_ok-from.ensures ∙ ap text c.place_name.ensures in
    let to = c.in_ok-to.ensures ∙ ap text c.place_name-2.ensures in
    told string_bytes c.format.result _ _
    (λ i. codes "\"from\":" ++ (from i ++ (codes ",\"to\":" ++ to i)))
    c.format.ensures.ok
