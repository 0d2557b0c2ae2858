use Rattle.shipment_machine.proofs.Common.{length-map, sym, ◌∙◌}
use Rattle.shipment_machine.proofs.planning.lines_for.Goals as goal

pub returns : goal.returns
returns c = c.count_for.ensures ∙ sym (length-map _ (λ line. line.cargo))
