use Rattle.carried_station.proofs.Late.{late_rests}
use Rattle.carried_station.proofs.laws.late_law.Goals as goal

pub returns : goal.returns
returns c = late_rests
