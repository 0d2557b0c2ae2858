use Rattle.desk_server.proofs.ServedInputs.{served_inputs}
use Rattle.desk_server.proofs.server.served_law.Goals as goal

pub returns : goal.returns
returns g c all s old new served kept works sound =
    served_inputs g.K.Keeper.keeping g.met.K.Keeper.settled all s old new served kept works sound
