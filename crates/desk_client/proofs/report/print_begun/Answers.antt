use Rattle.desk_client.proofs.Common.{Err, HasPrintedBody, PrintFault, ap, refl, subst, talk}
use Rattle.desk_client.specs.declared.reading.LastTry.TheVariants as last
use Rattle.desk_client.proofs.RowsPrinted.{broken}
use Rattle.desk_client.proofs.report.print_begun.Goals as goal

pub returns-in-Err-Rest : goal.returns-in-Err-Rest
returns-in-Err-Rest g c =
    let done = talk g.C.Connect.tried g.C.Connect.opened g.I.ByteIn.given g.O.ByteOut.taken in
    let before = c.args.service.now in
    let after = done (record { connections = before.connections; reader = c.print_report.new.reader; writer = before.writer; last = last.Failed c.by_time-fault.result }) in
    let old = g.W.ByteOut.taken c.args.output.now in
    let new = g.W.ByteOut.taken c.print_report.new.output in
    let body = c.body.result.now in
    broken c.args.form c.args.answer.now body (done before) after old new c.is_late.result c.in-Err-Rest.fault c.by_time-fault.result (Err c.service_fault.result) c.body.ensures
    (subst (λ (k : PrintFault). HasPrintedBody c.args.form body (g.I.ByteIn.given before.reader) (g.I.ByteIn.given c.print_report.new.reader) old new (Err k)) c.in-Err-Rest.field-0-is c.in-Err-Rest.ensures)
    (record { tried = refl; opened = refl; sent = refl }) c.by_time-fault.ensures refl (ap Err c.service_fault.ensures)
