use Rattle.state_store.proofs.Common.{lines_in, no_lines, take, ◌≡◌}
use Rattle.state_store.proofs.Filled.{filled}
use Rattle.state_store.proofs.lines.ExpectedLines.of.Given as goal

-- the lines of the rows so far
abbrev pub invariant-loop-row : goal.invariant-loop-row
invariant-loop-row l = lines_in l.kept ≡ filled no_lines (take l.row-index l.rows)
