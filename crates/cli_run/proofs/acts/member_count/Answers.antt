use Rattle.cli_run.proofs.Common.{sym, view}
use Rattle.cli_run.proofs.ActLines.{counted}
use Rattle.cli_run.proofs.acts.member_count.Goals as goal

pub returns : goal.returns
returns c = sym (counted c.in_ok-members.members.now.entries (view c.args.value.now) c.len.result c.in_ok-members.ensures c.len.ensures.len)
