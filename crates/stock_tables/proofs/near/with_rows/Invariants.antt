use Rattle.stock_tables.proofs.Common.{map, run_in, stock_meant, take, ◌++◌, ◌≡◌}
use Rattle.stock_tables.proofs.near.with_rows.Given as goal

abbrev pub invariant-loop-row : goal.invariant-loop-row
invariant-loop-row l = l.all.items ≡ l.ahead ++ map run_in (map stock_meant (take l.row-index l.rows))
