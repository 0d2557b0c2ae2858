use Rattle.state_store.proofs.Common.{AreStockRuns, Holders, IsNoneFrom, with_numbers, ◌-◌, ◌<◌, ◌≤◌}
use Rattle.state_store.proofs.maps.stock_runs.put_numbers.Given as goal

-- the numbers so far are among the runs
abbrev pub invariant-loop-from : goal.invariant-loop-from
invariant-loop-from l =
    (l.first ≤ l.from) × (l.first < l.from → l.from ≤ l.end) × ((held : Holders) → IsNoneFrom l.first held → AreStockRuns held l.fn.rows.items
    → AreStockRuns (with_numbers held l.first l.from l.holder) l.rows.items)

abbrev pub decreases-loop-from : goal.decreases-loop-from
decreases-loop-from l = l.end - l.from
