use Rattle.reports.proofs.FlightLists.{open_expected}
use Rattle.reports.proofs.report.open_expected_law.Goals as goal

pub returns : goal.returns
returns c = open_expected
