use Rattle.shipment_machine.proofs.Common.{depart_moves, take, ◌≡◌}
use Rattle.shipment_machine.proofs.departure.departing_moves.Given as goal

abbrev pub invariant-loop-aboard : goal.invariant-loop-aboard
invariant-loop-aboard l = l.moves.items ≡ depart_moves (take l.aboard-index l.loads) l.flight l.on.at
