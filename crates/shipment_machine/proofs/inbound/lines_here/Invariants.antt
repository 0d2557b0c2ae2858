use Rattle.shipment_machine.proofs.Common.{All, HasPieces, length, lines_for, take, ◌≡◌, ◌≤◌}
use Rattle.shipment_machine.proofs.inbound.lines_here.Given as goal

abbrev pub invariant-loop-line : goal.invariant-loop-line
invariant-loop-line l = (l.kept.items ≡ lines_for l.here (take l.line-index l.lines)) × (length l.kept.items ≤ l.line-index) × All HasPieces (take l.line-index l.lines)
