use Rattle.station_rows.proofs.Common.{AreRead, take}
use Rattle.station_rows.proofs.statements.read_all.Given as goal

abbrev pub invariant-loop-row : goal.invariant-loop-row
invariant-loop-row g l = AreRead g.T.ReadRow.reads (take l.row-index l.rows) l.all.items
