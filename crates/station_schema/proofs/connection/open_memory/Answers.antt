use Rattle.station_schema.proofs.Opened.{empty_rests}
use Rattle.station_schema.proofs.connection.open_memory.Goals as goal

pub returns-clause-rests : goal.returns-clause-rests
returns-clause-rests c = empty_rests c.open_in_memory.result c.open_in_memory.ensures.empty
