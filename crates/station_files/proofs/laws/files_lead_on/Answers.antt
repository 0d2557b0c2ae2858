use Rattle.station_files.proofs.Common.{stays_at}
use Rattle.station_files.proofs.Ended.{whole_leads_on}
use Rattle.station_files.proofs.laws.files_lead_on.Goals as goal

pub returns : goal.returns
returns g c = λ objects conn end lists ended honest numbered. whole_leads_on (λ it. stays_at it g.met.D.Disk.seen_may_stay) objects conn end ended honest numbered
