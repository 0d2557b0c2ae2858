use Rattle.shipment_machine.proofs.Common.{manifest_line, map, take, ◌≡◌}
use Rattle.shipment_machine.proofs.departure.lines_of.Given as goal

abbrev pub invariant-loop-aboard : goal.invariant-loop-aboard
invariant-loop-aboard l = l.lines.items ≡ map manifest_line (take l.aboard-index l.loads)
