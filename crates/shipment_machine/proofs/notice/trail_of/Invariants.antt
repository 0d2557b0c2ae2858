use Rattle.std.proofs.Common.{◌≡◌, take, map}
use Rattle.shipment_machine.specs.declared.plans.Change.TheVariants as change
use Rattle.shipment_machine.proofs.notice.trail_of.Given as goal

abbrev pub invariant-loop-line : goal.invariant-loop-line
invariant-loop-line l = l.changes.items ≡ map (λ line. change.Trail l.awb line) (take l.line-index l.lines)
