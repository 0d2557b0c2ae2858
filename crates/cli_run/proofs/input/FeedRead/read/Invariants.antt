use Rattle.cli_run.proofs.Common.{Keeps}
use Rattle.station_core.specs.Ends.{inner_of}
use Rattle.cli_run.proofs.input.FeedRead.read.Given as goal

-- nothing was read so far
abbrev pub invariant-loop : goal.invariant-loop
invariant-loop g l = Keeps (g.R.Read.remaining (inner_of l.fn.self)) (g.R.Read.remaining (inner_of l.self))
