use Rattle.carried_station.proofs.Named.{named}
use Rattle.carried_station.proofs.laws.message_law.Goals as goal

pub returns : goal.returns
returns c = named
