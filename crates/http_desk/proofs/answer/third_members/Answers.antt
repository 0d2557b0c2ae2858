use Rattle.http_desk.proofs.Common.{ap, codes, compact_text, string, string_bytes, told, ◌++◌, ◌∙◌, ◌≡◌}
use Rattle.http_desk.proofs.answer.third_members.Goals as goal

pub returns : goal.returns
returns c =
    let origin : string_bytes c.in_ok-origin.origin ≡ compact_text (string c.args.known.now.declared.origin) = c.in_ok-origin.ensures ∙ ap (λ t. compact_text (string t)) (c.ascii_text.ensures ∙ c.letters-origin.ensures.value) in
    told string_bytes c.format.result _ _
    (λ i. codes "\"missing\":" ++ (c.in_ok-missing.ensures i ++ (codes ",\"notified\":" ++ (c.flag_text-notified.ensures i ++ (codes ",\"origin\":" ++ (origin i ++ codes ","))))))
    c.format.ensures.ok
