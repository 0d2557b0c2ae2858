use Rattle.http_desk.proofs.Common.{Head, ap, gets, got_history, got_holder, got_report, got_waybill, header_bytes, map, place_told, posted_check, posted_command, posted_look, posted_telegram, posts}
use Rattle.http_desk.proofs.Wanting.{of_place}
use Rattle.http_desk.proofs.request.head_asks.Goals as goal

pub returns-in-Command : goal.returns-in-Command
returns-in-Command c = λ target.
    let head : Head = record { method = c.args.method.now; target = target; fields = map (header_bytes c.args.buf.now) c.args.fields.now } in
    rw c.in-Some.is (of_place c.post.result head (place_told c.in-Some.route) (posts (posted_command c.in-Command.field-0)) (ap place_told c.in-Command.is) (c.post.ensures target (posted_command c.in-Command.field-0)))

pub returns-in-Check : goal.returns-in-Check
returns-in-Check c = λ target.
    let head : Head = record { method = c.args.method.now; target = target; fields = map (header_bytes c.args.buf.now) c.args.fields.now } in
    rw c.in-Some.is (of_place c.post-in-Check.result head (place_told c.in-Some.route) (posts (posted_check c.in-Check.field-0)) (ap place_told c.in-Check.is) (c.post-in-Check.ensures target (posted_check c.in-Check.field-0)))

pub returns-in-Telegrams : goal.returns-in-Telegrams
returns-in-Telegrams c = λ target.
    let head : Head = record { method = c.args.method.now; target = target; fields = map (header_bytes c.args.buf.now) c.args.fields.now } in
    rw c.in-Some.is (of_place c.post-in-Telegrams.result head (place_told c.in-Some.route) (posts posted_telegram) (ap place_told c.in-Telegrams.is) (c.post-in-Telegrams.ensures target (posted_telegram)))

pub returns-in-Look : goal.returns-in-Look
returns-in-Look c = λ target.
    let head : Head = record { method = c.args.method.now; target = target; fields = map (header_bytes c.args.buf.now) c.args.fields.now } in
    rw c.in-Some.is (of_place c.post-in-Look.result head (place_told c.in-Some.route) (posts posted_look) (ap place_told c.in-Look.is) (c.post-in-Look.ensures target (posted_look)))

pub returns-in-Waybill : goal.returns-in-Waybill
returns-in-Waybill c = λ target.
    let head : Head = record { method = c.args.method.now; target = target; fields = map (header_bytes c.args.buf.now) c.args.fields.now } in
    rw c.in-Some.is (of_place c.get.result head (place_told c.in-Some.route) (gets (got_waybill c.in-Waybill.field-0.now)) (ap place_told c.in-Waybill.is) (c.get.ensures target (map (header_bytes c.args.buf.now) c.args.fields.now) (got_waybill c.in-Waybill.field-0.now)))

pub returns-in-History : goal.returns-in-History
returns-in-History c = λ target.
    let head : Head = record { method = c.args.method.now; target = target; fields = map (header_bytes c.args.buf.now) c.args.fields.now } in
    rw c.in-Some.is (of_place c.get-in-History.result head (place_told c.in-Some.route) (gets (got_history c.in-History.field-0.now)) (ap place_told c.in-History.is) (c.get-in-History.ensures target (map (header_bytes c.args.buf.now) c.args.fields.now) (got_history c.in-History.field-0.now)))

pub returns-in-Stock : goal.returns-in-Stock
returns-in-Stock c = λ target.
    let head : Head = record { method = c.args.method.now; target = target; fields = map (header_bytes c.args.buf.now) c.args.fields.now } in
    rw c.in-Some.is (of_place c.get-in-Stock.result head (place_told c.in-Some.route) (gets (got_holder c.in-Stock.field-0.now)) (ap place_told c.in-Stock.is) (c.get-in-Stock.ensures target (map (header_bytes c.args.buf.now) c.args.fields.now) (got_holder c.in-Stock.field-0.now)))

pub returns-in-Report : goal.returns-in-Report
returns-in-Report c = λ target.
    let head : Head = record { method = c.args.method.now; target = target; fields = map (header_bytes c.args.buf.now) c.args.fields.now } in
    rw c.in-Some.is (of_place c.get-in-Report.result head (place_told c.in-Some.route) (gets (got_report c.in-Report.field-0)) (ap place_told c.in-Report.is) (c.get-in-Report.ensures target (map (header_bytes c.args.buf.now) c.args.fields.now) (got_report c.in-Report.field-0)))
