use Rattle.table_audits.proofs.Common.{Some, build_entry, build_meant, drop, flight_entry, map}
use Rattle.table_audits.proofs.Walk.{SameAhead}
use Rattle.table_audits.proofs.builds.are_same.Given as goal

-- the rows are the sums where those ahead are
abbrev pub invariant-loop-row : goal.invariant-loop-row
invariant-loop-row l = SameAhead (λ row. Some (build_meant row)) (build_entry (map flight_entry l.fn.flights)) l.fn.rows l.fn.sums.builds.entries (drop l.row-index l.rows) l.ahead
