use Rattle.cli_call.proofs.laws.calls_beside_law.Goals as goal

pub returns : goal.returns
returns g c = c.calls_law.ensures c.own_files_lead_on.ensures c.own_files_lie_in_order.ensures
