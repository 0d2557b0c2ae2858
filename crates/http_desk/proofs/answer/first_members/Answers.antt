use Rattle.http_desk.proofs.Common.{ap, codes, compact_text, number_text, string, string_bytes, told, ◌++◌, ◌∙◌, ◌≡◌}
use Rattle.http_desk.proofs.answer.first_members.Goals as goal

pub returns : goal.returns
returns c =
    let awb : string_bytes c.in_ok-awb.awb ≡ compact_text (string (number_text c.args.number.now)) = c.in_ok-awb.ensures ∙ ap (λ t. compact_text (string t)) (c.ascii_text.ensures ∙ c.write-awb.ensures.text) in
    told string_bytes c.format.result _ _
    (λ i. codes "{\"awb\":" ++ (awb i ++ (codes ",\"delivered\":" ++ (c.in_ok-delivered.ensures i ++ (codes ",\"departed\":" ++ (c.in_ok-departed.ensures i ++ codes ","))))))
    c.format.ensures.ok
