use Rattle.reports.proofs.FlightLists.{one_expected_text}
use Rattle.reports.proofs.report.expected_report_law.Goals as goal

pub returns : goal.returns
returns c = one_expected_text
