use Rattle.cli_call.proofs.laws.calls_over_file_law.Goals as goal

pub returns : goal.returns
returns g c = c.calls_law.ensures c.files_lead_on.ensures c.files_lie_in_order.ensures
