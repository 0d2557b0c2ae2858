use Rattle.stock_tables.proofs.Common.{filter, reaches, take, ◌≡◌}
use Rattle.stock_tables.proofs.near.reaching_rows.Given as goal

abbrev pub invariant-loop-row : goal.invariant-loop-row
invariant-loop-row l = l.near.items ≡ filter (reaches l.run) (take l.row-index l.rows)
