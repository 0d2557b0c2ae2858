use Rattle.station_core.proofs.Common.{AllByRecursion, IsInboundLine, arith, subst, take_all}
use Rattle.station_core.proofs.RangeLaws.{all_more}
use Rattle.station_core.proofs.ranges.lines_range.Goals as goal

pub loop-line-preserved : goal.loop-line-preserved
loop-line-preserved c = all_more IsInboundLine c.args.lines.now c.loop-line.line-index c.line-item.result (omega arith) c.loop-line.invariant (subst IsInboundLine c.line-item.is c.inbound_range.ensures)

pub returns : goal.returns
returns c = subst (AllByRecursion IsInboundLine) (take_all c.loop-line.line-index c.args.lines.now (omega arith)) c.loop-line.invariant
