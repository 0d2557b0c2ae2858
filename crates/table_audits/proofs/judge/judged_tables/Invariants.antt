use Rattle.table_audits.proofs.Judged.{AreSoFar, left}
use Rattle.table_audits.proofs.judge.judged_tables.Given as goal

abbrev pub invariant-loop-ahead : goal.invariant-loop-ahead
invariant-loop-ahead g l = AreSoFar g.S.Store l.fn.conn l.conn l.fn.known l.known l.ahead

abbrev pub decreases-loop-ahead : goal.decreases-loop-ahead
decreases-loop-ahead g l = left l.ahead
