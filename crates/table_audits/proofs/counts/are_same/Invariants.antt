use Rattle.table_audits.proofs.Common.{count_entry, count_meant, drop}
use Rattle.table_audits.proofs.Walk.{SameAhead}
use Rattle.table_audits.proofs.counts.are_same.Given as goal

-- the rows are the sums where those ahead are
abbrev pub invariant-loop-row : goal.invariant-loop-row
invariant-loop-row l = SameAhead count_meant count_entry l.fn.rows l.fn.sums.counts.entries (drop l.row-index l.rows) l.ahead
