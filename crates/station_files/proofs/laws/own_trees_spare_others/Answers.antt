use Rattle.station_files.proofs.OthersStay.{files_stay}
use Rattle.station_files.proofs.laws.own_trees_spare_others.Goals as goal

pub returns : goal.returns
returns g c = files_stay g.D.Disk g.met.D.Disk.seen_may_stay _ (λ old new tree step. (step.1, step.2))
