use Rattle.std.proofs.Common.{length, ◌-◌, ◌≡◌, ◌++◌}
use Rattle.station_core.specs.Ends.{waiting}
use Rattle.station_core.proofs.gathered.Gathered.flush.Given as goal

-- what went out is gone from what waits, and nothing else is
abbrev pub invariant-loop-self : goal.invariant-loop-self
invariant-loop-self g l = record {
  tally : l.self.tally ≡ l.fn.self.tally;
  bytes : (g.W.ByteOut.taken l.self.inner).bytes ++ waiting l.self ≡ (g.W.ByteOut.taken l.fn.self.inner).bytes ++ waiting l.fn.self;
  failures : (g.W.ByteOut.taken l.self.inner).failures ≡ (g.W.ByteOut.taken l.fn.self.inner).failures;
  idle : (g.W.ByteOut.taken l.self.inner).idle ≡ (g.W.ByteOut.taken l.fn.self.inner).idle;
}

abbrev pub decreases-loop-self : goal.decreases-loop-self
decreases-loop-self g l = length l.self.pending.items - l.self.gone
