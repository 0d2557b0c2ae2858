use Rattle.station_files.proofs.Common.{refl, stays_at, view}
use Rattle.station_files.proofs.Ended.{own_leads_on}
use Rattle.station_files.proofs.laws.own_files_lead_on.Goals as goal

pub returns : goal.returns
returns g c = λ objects conn end lists ended honest numbered.
    own_leads_on g.D.Disk g.met.D.Disk.seen_may_stay _ (λ it is_open. ((view it.store).committed, stays_at it.store g.met.D.Disk.seen_may_stay is_open, refl)) objects conn lists end ended honest
