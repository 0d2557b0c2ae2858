use Rattle.shipment_machine.proofs.Common.{CargoLine, announced_changes, arith, get, get_or, nat_eq, no_earlier, subst, sym, ◌≡◌}
use Rattle.shipment_machine.proofs.AnnouncedSteps.{one_more}
use Rattle.shipment_machine.proofs.inbound.announced.Goals as goal

pub loop-i-preserved : goal.loop-i-preserved
loop-i-preserved c =
    one_more (announced_changes no_earlier c.args.flight.now c.args.at.day c.args.lines.now c.args.rows.now) c.loop-i.changes.items c.add_line.new.changes.items
    (get nat_eq c.loop-i.earlier) (get nat_eq c.add_line.new.earlier) c.args.flight.now c.args.at.day c.args.lines.now c.args.rows.now c.loop-i.i
    c.get.result.now c.index-rows-i.result c.loop-i.invariant (omega arith) (omega arith)
    (subst (λ (x : CargoLine). x ≡ get_or c.args.lines.now c.loop-i.i x) (sym c.get.ensures) c.index-lines-i.is) c.index-rows-i.is
    c.in_ok-add_line.ensures.due c.in_ok-add_line.ensures.changes c.in_ok-add_line.ensures.earlier
