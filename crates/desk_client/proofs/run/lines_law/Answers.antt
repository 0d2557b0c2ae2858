use Rattle.desk_client.proofs.Replies.{lines}
use Rattle.desk_client.proofs.run.lines_law.Goals as goal

pub returns : goal.returns
returns c = lines
