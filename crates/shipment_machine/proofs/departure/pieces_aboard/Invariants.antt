use Rattle.shipment_machine.proofs.Common.{sum_by, take, ◌*◌, ◌≡◌, ◌≤◌}
use Rattle.shipment_machine.proofs.departure.pieces_aboard.Given as goal

abbrev pub invariant-loop-aboard : goal.invariant-loop-aboard
invariant-loop-aboard l = (l.pieces ≡ sum_by (λ a. a.load.pieces) (take l.aboard-index l.loads)) × (l.pieces ≤ 9999 * l.aboard-index)
