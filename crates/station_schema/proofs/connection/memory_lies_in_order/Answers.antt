use Rattle.station_schema.proofs.MemoryRows.{memory_lies_in_order}
use Rattle.station_schema.proofs.connection.memory_lies_in_order.Goals as goal

pub returns : goal.returns
returns c = memory_lies_in_order
