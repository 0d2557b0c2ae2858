use Rattle.std.proofs.Common.{codes}
use Rattle.cli_run.proofs.telling.tell_body.Goals as goal

pub returns : goal.returns
returns g c = c.tell_reason.ensures.reason (codes "body: ") c.body_reason.ensures
