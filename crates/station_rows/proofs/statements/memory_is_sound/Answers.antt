use Rattle.station_rows.proofs.Common.{memory_is_clean}
use Rattle.station_rows.proofs.statements.memory_is_sound.Goals as goal

pub returns : goal.returns
returns c declared = (memory_is_clean c.args._rows.now.conn, declared, c.memory_lies_in_order.ensures)
