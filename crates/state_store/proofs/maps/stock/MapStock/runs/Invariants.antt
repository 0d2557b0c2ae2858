use Rattle.state_store.proofs.Common.{AreStockRuns, holders_of}
use Rattle.state_store.proofs.Below.{below}
use Rattle.state_store.proofs.Ahead.{IsAhead}
use Rattle.state_store.proofs.maps.stock.MapStock.runs.Given as goal

-- the runs below the entry are there, and the entries ahead say the rest
abbrev pub invariant-loop-key : goal.invariant-loop-key
invariant-loop-key l = AreStockRuns (below l.from (holders_of l.self)) l.rows.items × IsAhead (holders_of l.self) l.from l.named l.key-iterator
