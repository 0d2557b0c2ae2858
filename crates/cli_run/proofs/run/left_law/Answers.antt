use Rattle.cli_run.proofs.Common.{ends}
use Rattle.cli_run.proofs.Left.{done_left}
use Rattle.cli_run.proofs.run.left_law.Goals as goal

pub returns : goal.returns
returns g c command here at s old new result kept works sound has =
    done_left g.K.Keeper.keeping g.met.K.Keeper.settled
    (ends g.I.Read.remaining g.I.ByteIn.given g.I.Inputs.turned g.W.ByteOut.taken g.E.ByteOut.taken) at here s old new result kept works sound command has
