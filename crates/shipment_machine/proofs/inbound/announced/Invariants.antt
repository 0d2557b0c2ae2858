use Rattle.shipment_machine.proofs.Common.{announced_changes, drop, get, nat_eq, no_earlier, then_write, ◌≡◌}
use Rattle.shipment_machine.proofs.inbound.announced.Given as goal

abbrev pub invariant-loop-i : goal.invariant-loop-i
invariant-loop-i l = announced_changes no_earlier l.flight l.at.day l.lines l.rows ≡ then_write l.changes.items (announced_changes (get nat_eq l.earlier) l.flight l.at.day (drop l.i l.lines) (drop l.i l.rows))
