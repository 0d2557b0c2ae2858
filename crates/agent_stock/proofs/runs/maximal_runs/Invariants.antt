use Rattle.agent_stock.proofs.Common.{AreRuns, AreStockRuns, holders_by, take}
use Rattle.agent_stock.proofs.runs.maximal_runs.Given as goal

-- the runs so far are those of the rows so far
abbrev pub invariant-loop-row : goal.invariant-loop-row
invariant-loop-row l = AreRuns l.rows → AreStockRuns (holders_by (take l.row-index l.rows)) l.runs.items
