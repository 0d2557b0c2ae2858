use Rattle.reports.proofs.OneList.{one_list, one_text}
use Rattle.reports.proofs.report.stock_report_law.Goals as goal

pub returns-clause-runs : goal.returns-clause-runs
returns-clause-runs c = one_list

pub returns-clause-text : goal.returns-clause-text
returns-clause-text c = one_text
