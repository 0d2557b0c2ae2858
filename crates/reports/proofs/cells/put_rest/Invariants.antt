use Rattle.reports.proofs.Common.{flat_map, next_text, take, ◌++◌, ◌≡◌}
use Rattle.reports.proofs.cells.put_rest.Given as goal

abbrev pub invariant-loop-cell : goal.invariant-loop-cell
invariant-loop-cell l = l.out.items ≡ l.fn.out.items ++ flat_map (next_text l.fn.form) (take l.cell-index l.cells)
