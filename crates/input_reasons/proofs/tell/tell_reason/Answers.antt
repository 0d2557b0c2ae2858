use Rattle.input_reasons.proofs.Told.{none_told}
use Rattle.input_reasons.proofs.tell.tell_reason.Goals as goal

pub returns-in-Err-clause-reason : goal.returns-in-Err-clause-reason
returns-in-Err-clause-reason g c = λ head is. none_told head (g.E.ByteOut.taken c.args.errors.now).bytes
