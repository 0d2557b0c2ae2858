use Rattle.http_desk.proofs.Common.{HasSent, IsCause, List, ReportCause, StopsBy, arith, false, length, report_head, subst, ℕ, ◌<◌, ◌∙◌, ◌≡◌}
use Rattle.http_desk.proofs.Reporting.{ended_early, after_write, after_part, after_none, none_failed, readers_fault, some_of_report, stops_behind}
use Rattle.http_desk.proofs.writing.answer_report.Goals as goal

pub returns-in-Write-clause-reported : goal.returns-in-Write-clause-reported
returns-in-Write-clause-reported g c = λ s kept works sound.
    let old = g.O.ByteOut.taken c.args.writer.now in
    let mid = g.O.ByteOut.taken c.write_listing.new.writer in
    let Works : Type 0 = g.K.Keeper.keeping.is_broken c.args.keeper.now ≡ false in
    let May : Type 0 = g.K.Keeper.keeping.may_fail in
    let ended = ended_early Works May s old mid c.in-Err.field-0 c.args.printout c.as_bytes.result.now (c.as_bytes.ensures.value ∙ c.in-Ok.ensures) (c.in-Err.ensures.ended s kept sound) in
    after_write s c.args.printout old mid Works May c.in-Err.field-0 c.in-Write.is ended

pub returns-then-sent-gt0-clause-reported : goal.returns-then-sent-gt0-clause-reported
returns-then-sent-gt0-clause-reported g c = λ s kept works sound.
    let old = g.O.ByteOut.taken c.args.writer.now in
    let mid = g.O.ByteOut.taken c.write_listing.new.writer in
    let Works : Type 0 = g.K.Keeper.keeping.is_broken c.args.keeper.now ≡ false in
    let May : Type 0 = g.K.Keeper.keeping.may_fail in
    let front : List ℕ = c.as_bytes.result.now in
    let is : front ≡ report_head c.args.printout = c.as_bytes.ensures.value ∙ c.in-Ok.ensures in
    let some : length (report_head c.args.printout) < c.in-Err.field-0.sent = some_of_report front c.in-Err.field-0 c.in-Act.fault old mid c.in-Act.is c.in-Err.ensures.writes c.args.printout is (omega arith) in
    after_part s c.args.printout old mid Works May c.in-Err.field-0 some
    (ended_early Works May s old mid c.in-Err.field-0 c.args.printout c.as_bytes.result.now (c.as_bytes.ensures.value ∙ c.in-Ok.ensures) (c.in-Err.ensures.ended s kept sound))

pub returns-clause-reported : goal.returns-clause-reported
returns-clause-reported g c = λ s kept works sound.
    let old = g.O.ByteOut.taken c.args.writer.now in
    let mid = g.O.ByteOut.taken c.write_listing.new.writer in
    let Works : Type 0 = g.K.Keeper.keeping.is_broken c.args.keeper.now ≡ false in
    let May : Type 0 = g.K.Keeper.keeping.may_fail in
    let ended = ended_early Works May s old mid c.in-Err.field-0 c.args.printout c.as_bytes.result.now (c.as_bytes.ensures.value ∙ c.in-Ok.ensures) (c.in-Err.ensures.ended s kept sound) in
    let none : c.in-Err.field-0.sent ≡ 0 = omega arith in
    after_none s c.args.printout old mid Works May c.in-Err.field-0 c.in-Act.fault c.is_reopen.result (g.O.ByteOut.taken c.send_answer-in-Act.new.writer) c.send_answer-in-Act.result
    none c.in-Act.is (c.is_reopen.ensures (readers_fault May c.in-Act.fault (subst (IsCause May) c.in-Act.is (ended.fault works)))) ended
    (subst (λ (b : List ℕ). HasSent 503 c.is_reopen.result b mid (g.O.ByteOut.taken c.send_answer-in-Act.new.writer) c.send_answer-in-Act.result) c.unavailable-in-Act.ensures c.send_answer-in-Act.ensures.sent)

pub returns-in-Write-clause-writes : goal.returns-in-Write-clause-writes
returns-in-Write-clause-writes g c =
    let old = g.O.ByteOut.taken c.args.writer.now in
    let mid = g.O.ByteOut.taken c.write_listing.new.writer in
    subst (λ (w : ReportCause). StopsBy c.as_bytes.result.now w c.in-Err.field-0.sent old mid) c.in-Write.is c.in-Err.ensures.writes

pub returns-then-sent-gt0-clause-writes : goal.returns-then-sent-gt0-clause-writes
returns-then-sent-gt0-clause-writes g c =
    none_failed c.as_bytes.result.now c.in-Err.field-0 c.in-Act.fault (g.O.ByteOut.taken c.args.writer.now) (g.O.ByteOut.taken c.write_listing.new.writer) c.in-Act.is c.in-Err.ensures.writes

pub returns-clause-writes : goal.returns-clause-writes
returns-clause-writes g c =
    let old = g.O.ByteOut.taken c.args.writer.now in
    let mid = g.O.ByteOut.taken c.write_listing.new.writer in
    let new = g.O.ByteOut.taken c.send_answer-in-Act.new.writer in
    stops_behind old mid new c.send_answer-in-Act.result
    (none_failed c.as_bytes.result.now c.in-Err.field-0 c.in-Act.fault old mid c.in-Act.is c.in-Err.ensures.writes) c.send_answer-in-Act.ensures.writes
