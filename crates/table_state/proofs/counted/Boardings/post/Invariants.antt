use Rattle.table_state.proofs.OneMore.{PostedTo}
use Rattle.table_state.proofs.counted.Boardings.post.Given as goal

abbrev pub invariant-loop-kept : goal.invariant-loop-kept
invariant-loop-kept l = PostedTo l.movement l.were l.fn.self.flights l.kept-items l.kept-index
