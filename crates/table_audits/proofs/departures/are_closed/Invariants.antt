use Rattle.table_audits.proofs.Common.{drop, flight_entry, is_set}
use Rattle.std.specs.Slice.Iter.{iter_rest}
use Rattle.table_audits.proofs.Walk.{SameAhead}
use Rattle.table_audits.proofs.departures.are_closed.Given as goal

-- the marks are those of the flights where those ahead are
abbrev pub invariant-loop-row : goal.invariant-loop-row
invariant-loop-row l = SameAhead (λ row. is_set (flight_entry row).1.closed) (λ mark. mark) l.fn.flights l.fn.marks (drop l.row-index l.flights) (iter_rest l.ahead)
