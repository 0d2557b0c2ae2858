use Rattle.desk_client.proofs.Common.{rows_path, talk}
use Rattle.desk_client.proofs.RowsAsked.{rows_shown, rows_unanswered, rows_unasked}
use Rattle.desk_client.proofs.ask.RemoteDeskAsk.ask_rows.Goals as goal

pub returns-in_default : goal.returns-in_default
returns-in_default g c =
    let done = talk g.C.Connect.tried g.C.Connect.opened g.I.ByteIn.given g.O.ByteOut.taken in
    rows_unasked c.args.form (rows_path c.args.listing.now c.args.form) (done c.args.self.now) (g.W.ByteOut.taken c.args.output.now)

pub returns-in-Ok-try_thrice : goal.returns-in-Ok-try_thrice
returns-in-Ok-try_thrice g c =
    let done = talk g.C.Connect.tried g.C.Connect.opened g.I.ByteIn.given g.O.ByteOut.taken in
    rows_shown c.args.form (rows_path c.args.listing.now c.args.form) c.as_slice.result.now c.in-Ok.request.items (done c.args.self.now) (done c.try_thrice.new.service)
    (done c.show_answer.new.service) c.in-Ok-try_thrice.answer (g.W.ByteOut.taken c.args.output.now) (g.W.ByteOut.taken c.show_answer.new.output) c.show_answer.result
    c.as_slice.ensures.value c.in-Ok.ensures c.in-Ok-try_thrice.ensures c.show_answer.ensures

pub returns : goal.returns
returns g c =
    let done = talk g.C.Connect.tried g.C.Connect.opened g.I.ByteIn.given g.O.ByteOut.taken in
    rows_unanswered c.args.form (rows_path c.args.listing.now c.args.form) c.as_slice.result.now c.in-Ok.request.items (done c.args.self.now) (done c.try_thrice.new.service)
    c.in-Err.fault (g.W.ByteOut.taken c.args.output.now) c.service_fault.result c.as_slice.ensures.value c.in-Ok.ensures c.in-Err.ensures c.service_fault.ensures
