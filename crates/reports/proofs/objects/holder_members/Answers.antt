use Rattle.reports.proofs.Common.{List, ap, codes, compact_text, string, string_bytes, told, ℕ, ◌++◌, ◌∙◌}
use Rattle.serde_json.proofs.OnLiterals.{serde_json_on_literals}
use Rattle.reports.proofs.objects.holder_members.Goals as goal

pub returns : goal.returns
unfolding serde_json_on_literals
returns c =
    let text : List ℕ → List ℕ = λ t. compact_text (string t) in
    let word = c.in_ok-word.ensures ∙ ap text c.holder_word.ensures in
    let name = c.in_ok-name.ensures ∙ ap text c.holder_name.ensures in
    told string_bytes c.format.result _ _
    (λ i. codes "\"holder\":" ++ (word i ++ (codes ",\"name\":" ++ (name i))))
    c.format.ensures.ok
