use Rattle.std.proofs.Common.{◌≡◌, ◌++◌, map}
use Rattle.state_store.proofs.InOrder.{expectation_of}
use Rattle.state_store.proofs.lines.ExpectedLines.listed.Given as goal

-- the rows so far and those ahead are all
abbrev pub invariant-loop-key : goal.invariant-loop-key
invariant-loop-key l = l.rows.items ++ map expectation_of l.key-iterator ≡ map expectation_of l.self.entries.entries
