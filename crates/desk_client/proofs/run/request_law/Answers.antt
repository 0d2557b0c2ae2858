use Rattle.desk_client.proofs.Common.{got_history, got_holder, got_report, got_waybill, history_path, holder_path, number_again, number_text, report_path, rows_path, waybill_path}
use Rattle.reports.specs.declared.layout.Form.TheVariants.{Text}
use Rattle.reports.specs.declared.report.Listing.TheVariants.{All}
use Rattle.http_desk.specs.Request.{as_text, in_form}
use Rattle.desk_client.proofs.ReadBack.{command_read, got_read, telegram_read}
use Rattle.desk_client.proofs.run.request_law.Goals as goal

pub returns-clause-command : goal.returns-clause-command
returns-clause-command c = command_read c.routes_law.ensures.posted

pub returns-clause-telegram : goal.returns-clause-telegram
returns-clause-telegram c = telegram_read c.routes_law.ensures.posted

pub returns-clause-report : goal.returns-clause-report
returns-clause-report c = λ name. got_read (report_path name) (got_report (as_text name)) (c.routes_law.ensures.rows (All name) Text tt)

pub returns-clause-waybill : goal.returns-clause-waybill
returns-clause-waybill c = λ w range. (got_read (waybill_path w) (got_waybill (number_text w)) (c.routes_law.ensures.waybill w), number_again w range)

pub returns-clause-history : goal.returns-clause-history
returns-clause-history c = λ w range. (got_read (history_path w) (got_history (number_text w)) (c.routes_law.ensures.history w), number_again w range)

pub returns-clause-holder : goal.returns-clause-holder
returns-clause-holder c = λ w range. (got_read (holder_path w) (got_holder (number_text w)) (c.routes_law.ensures.holder w), number_again w range)

pub returns-clause-rows : goal.returns-clause-rows
returns-clause-rows c = λ l f listed. got_read (rows_path l f) (got_report (in_form f l)) (c.routes_law.ensures.rows l f listed)
