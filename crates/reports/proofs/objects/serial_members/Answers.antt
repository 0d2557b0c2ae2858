use Rattle.reports.proofs.Common.{List, ap, codes, compact_text, prefix_of, rules, serial_of, string, string_bytes, told, ℕ, ◌++◌, ◌∙◌, ◌≡◌}
use Rattle.serde_json.proofs.OnLiterals.{serde_json_on_literals}
use Rattle.awb_number.specs.Number.{padded}
use Rattle.reports.proofs.objects.serial_members.Goals as goal

pub returns : goal.returns
unfolding serde_json_on_literals
returns c =
    let text : List ℕ → List ℕ = λ t. compact_text (string t) in
    let row = c.args.run.now in
    let prefix_is : c.ascii_text.result.now ≡ padded 3 (prefix_of row.first) = search rules in
    let first_is : c.ascii_text-2.result.now ≡ padded 7 (serial_of row.first) = search rules in
    let prefix = c.in_ok-prefix.ensures ∙ ap text prefix_is in
    let first = c.in_ok-first.ensures ∙ ap text first_is in
    let last = c.in_ok-last.ensures ∙ ap text (c.ascii_text-3.ensures ∙ c.last_serial-last.ensures.value) in
    told string_bytes c.format.result _ _
    (λ i. codes "\"prefix\":" ++ (prefix i ++ (codes ",\"first\":" ++ (first i ++ (codes ",\"last\":" ++ (last i))))))
    c.format.ensures.ok
