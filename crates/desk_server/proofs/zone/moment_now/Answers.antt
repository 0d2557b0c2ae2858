use Rattle.desk_server.proofs.Instants.{at_instant}
use Rattle.desk_server.proofs.zone.moment_now.Goals as goal

pub returns-in-Ok : goal.returns-in-Ok
returns-in-Ok g c = at_instant c.args.zone.now c.in-Ok.now.nanosecond _ c.moment_of.result c.moment_of.ensures
