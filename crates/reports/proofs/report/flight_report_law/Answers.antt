use Rattle.reports.proofs.FlightLists.{one_flight_text}
use Rattle.reports.proofs.report.flight_report_law.Goals as goal

pub returns : goal.returns
returns c = one_flight_text
