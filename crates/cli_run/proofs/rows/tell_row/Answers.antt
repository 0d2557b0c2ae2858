use Rattle.cli_run.proofs.Common.{numbered_head, row_head}
use Rattle.cli_run.proofs.rows.tell_row.Goals as goal

pub returns-clause-own : goal.returns-clause-own
returns-clause-own g c = c.tell_reason.ensures.reason (numbered_head c.args.line) c.row_reason.ensures.number

pub returns-clause-line : goal.returns-clause-line
returns-clause-line g c = c.tell_reason.ensures.reason row_head c.row_reason.ensures.line
