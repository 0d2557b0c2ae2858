use Rattle.reports.proofs.Common.{codes, decimal, string_bytes, told, ◌++◌}
use Rattle.serde_json.proofs.OnLiterals.{serde_json_on_literals}
use Rattle.reports.proofs.objects.amount_members.Goals as goal

pub returns : goal.returns
unfolding serde_json_on_literals
returns c =
    told string_bytes c.format.result _ _
    (λ i. codes "\"pieces\":" ++ (decimal c.args.pieces ++ (codes ",\"tenths\":" ++ decimal c.args.tenths)))
    c.format.ensures.ok
