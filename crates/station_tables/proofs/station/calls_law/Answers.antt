use Rattle.station_tables.proofs.Calls.{calls_act_once}
use Rattle.station_tables.proofs.station.calls_law.Goals as goal

pub returns : goal.returns
returns c = calls_act_once c.retry_law.ensures.once
