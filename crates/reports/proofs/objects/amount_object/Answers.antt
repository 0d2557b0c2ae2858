use Rattle.reports.proofs.Common.{codes, decimal, string_bytes, told, ◌++◌}
use Rattle.serde_json.proofs.OnLiterals.{serde_json_on_literals}
use Rattle.reports.proofs.objects.amount_object.Goals as goal

pub returns : goal.returns
unfolding serde_json_on_literals
returns c =
    told string_bytes c.format.result _ _
    (λ i. codes "{\"pieces\":" ++ (decimal c.args.amount.now.pieces ++ (codes ",\"tenths\":" ++ (decimal c.args.amount.now.tenths ++ codes "}"))))
    c.format.ensures.ok
