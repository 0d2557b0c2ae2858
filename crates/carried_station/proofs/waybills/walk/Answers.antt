use Rattle.std.proofs.Common.{arith}
use Rattle.carried_station.proofs.Walked.{unended}
use Rattle.carried_station.proofs.waybills.walk.Goals as goal

pub returns-then-at-new : goal.returns-then-at-new
returns-then-at-new c = unended c.args.old.now c.args.new.now c.loop-row.row-index c.loop-row.at c.loop-row.left.items (omega (arith, c.loop-row-test.false)) c.if-at-new.true c.loop-row.invariant.1
