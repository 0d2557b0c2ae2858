use Rattle.http_desk.proofs.Paths.{leads, query_off}
use Rattle.http_desk.proofs.Printed.{history_path, holder_path, posted_path, rows_path_of, waybill_path}
use Rattle.http_desk.proofs.route.routes_law.Goals as goal

pub returns-clause-leads : goal.returns-clause-leads
returns-clause-leads c = leads

pub returns-clause-query : goal.returns-clause-query
returns-clause-query c = query_off

pub returns-clause-posted : goal.returns-clause-posted
returns-clause-posted c = posted_path

pub returns-clause-waybill : goal.returns-clause-waybill
returns-clause-waybill c = waybill_path

pub returns-clause-history : goal.returns-clause-history
returns-clause-history c = history_path

pub returns-clause-holder : goal.returns-clause-holder
returns-clause-holder c = holder_path

pub returns-clause-rows : goal.returns-clause-rows
returns-clause-rows c = rows_path_of
