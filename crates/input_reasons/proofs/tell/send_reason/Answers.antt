use Rattle.input_reasons.proofs.Told.{sent_told}
use Rattle.input_reasons.proofs.tell.send_reason.Goals as goal

pub returns-clause-reason : goal.returns-clause-reason
returns-clause-reason g c = λ head is.
    sent_told head c.args.line.now (g.E.ByteOut.taken c.args.errors.now) (g.E.ByteOut.taken c.send-sent.new.writer) c.send-sent.result
    (rw c.as_bytes.ensures.value at c.send-sent.ensures.all) (rw c.as_bytes.ensures.value at c.send-sent.ensures.part) is
