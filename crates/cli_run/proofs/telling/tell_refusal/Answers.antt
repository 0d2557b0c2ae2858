use Rattle.cli_run.proofs.Common.{is_unread, reason_head, rules}
use Rattle.cli_run.specs.declared.request.Request.TheVariants as asked
use Rattle.cli_run.proofs.Reasons.{told_if}
use Rattle.cli_run.proofs.telling.tell_refusal.Goals as goal

pub returns : goal.returns
returns g c =
    told_if g.E.ByteOut.taken (is_unread c.args.refusal.now) (reason_head c.args.number (asked.Refused c.args.refusal.now)) c.args.errors.now c.tell_unread.new.errors
    (search rules) c.tell_unread.ensures
