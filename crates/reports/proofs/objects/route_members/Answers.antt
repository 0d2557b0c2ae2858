use Rattle.reports.proofs.Common.{codes, string_bytes, told, ◌++◌}
use Rattle.serde_json.proofs.OnLiterals.{serde_json_on_literals}
use Rattle.reports.proofs.objects.route_members.Goals as goal

pub returns : goal.returns
unfolding serde_json_on_literals
returns c =
    told string_bytes c.format.result _ _
    (λ i. codes "\"origin\":" ++ (c.in_ok-origin.ensures i ++ (codes ",\"destination\":" ++ c.in_ok-destination.ensures i)))
    c.format.ensures.ok
