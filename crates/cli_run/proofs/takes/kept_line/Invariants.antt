use Rattle.cli_run.proofs.Common.{All, Consumes, length, most_line, ◌+◌, ◌-◌, ◌≢◌, ◌≤◌}
use Rattle.cli_run.proofs.takes.kept_line.Given as goal

-- the line so far was read, and has no end
abbrev pub invariant-loop-reader : goal.invariant-loop-reader
invariant-loop-reader g l =
    (length l.line.items ≤ most_line + 1) × All (λ x. x ≢ 10) l.line.items
    × Consumes (g.R.Read.remaining l.fn.reader) (g.R.Read.remaining l.reader) l.line.items

abbrev pub decreases-loop-reader : goal.decreases-loop-reader
decreases-loop-reader g l = most_line + 1 - length l.line.items
