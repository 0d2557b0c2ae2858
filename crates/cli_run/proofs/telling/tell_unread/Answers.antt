use Rattle.cli_run.proofs.Common.{codes, numbered_head}
use Rattle.cli_run.proofs.telling.tell_unread.Goals as goal

pub returns-in-Some : goal.returns-in-Some
returns-in-Some g c = rw c.in-Some.is (c.tell_reason.ensures.reason (numbered_head c.in-Some.number) c.telegram_line_reason.ensures.number)

pub returns-in-None : goal.returns-in-None
returns-in-None g c = rw c.in-None.is (c.tell_reason-in-None.ensures.reason (codes "telegram: ") c.telegram_reason.ensures)
