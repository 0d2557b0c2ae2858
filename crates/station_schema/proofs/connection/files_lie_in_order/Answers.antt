use Rattle.station_schema.proofs.Files.{files_lie_in_order}
use Rattle.station_schema.proofs.connection.files_lie_in_order.Goals as goal

pub returns : goal.returns
returns g c = files_lie_in_order {g = g.D.Disk} g.met.D.Disk.seen_may_stay
