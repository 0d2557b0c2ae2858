use Rattle.station_core.proofs.Common.{AllByRecursion, IsInboundLine, take}
use Rattle.station_core.proofs.ranges.lines_range.Given as goal

-- the lines so far are in range
abbrev pub invariant-loop-line : goal.invariant-loop-line
invariant-loop-line l = AllByRecursion IsInboundLine (take l.line-index l.lines)
