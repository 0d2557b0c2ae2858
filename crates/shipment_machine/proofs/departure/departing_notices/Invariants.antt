use Rattle.shipment_machine.proofs.Common.{flat_map, status_of, take, ◌≡◌}
use Rattle.shipment_machine.specs.declared.notice.Event.TheVariants as event
use Rattle.shipment_machine.proofs.departure.departing_notices.Given as goal

abbrev pub invariant-loop-aboard : goal.invariant-loop-aboard
invariant-loop-aboard l = l.notices.items ≡ flat_map (λ a. status_of l.on.here a.awb a.declared (event.Departed l.flight l.unload) a.load) (take l.aboard-index l.loads)
