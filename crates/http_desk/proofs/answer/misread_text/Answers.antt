use Rattle.http_desk.proofs.Common.{codes, compact_text, decimal, string_bytes, told, ◌++◌}
use Rattle.http_desk.specs.Request.{misread_data}
use Rattle.serde_json.proofs.OnLiterals.{serde_json_on_literals}
use Rattle.http_desk.proofs.answer.misread_text.Goals as goal

pub returns : goal.returns
unfolding serde_json_on_literals
returns c =
    told string_bytes c.format.result _ (compact_text (misread_data c.args.refused c.args.detail.now c.args.reason.now))
    (λ i. codes "{\"detail\":" ++ (c.in_ok-detail.ensures i ++ (codes ",\"reason\":" ++ (c.in_ok-reason.ensures i ++ (codes ",\"refused\":" ++ (decimal c.args.refused ++ codes "}"))))))
    c.format.ensures.ok
