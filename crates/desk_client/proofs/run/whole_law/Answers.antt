use Rattle.desk_client.proofs.Cuts.{one, cut, report_cut, report_whole}
use Rattle.desk_client.proofs.run.whole_law.Goals as goal

pub returns-clause-one : goal.returns-clause-one
returns-clause-one c = one

pub returns-clause-cut : goal.returns-clause-cut
returns-clause-cut c = cut

pub returns-clause-begun : goal.returns-clause-begun
returns-clause-begun c = report_whole

pub returns-clause-broken : goal.returns-clause-broken
returns-clause-broken c = report_cut
