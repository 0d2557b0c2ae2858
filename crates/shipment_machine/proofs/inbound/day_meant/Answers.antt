use Rattle.shipment_machine.proofs.Common.{ap, resolved, sym, ◌∙◌}
use Rattle.shipment_machine.proofs.Meant.{meant, not_meant}
use Rattle.shipment_machine.proofs.inbound.day_meant.Goals as goal

pub returns-clause-some : goal.returns-clause-some
returns-clause-some c =
    meant (resolved c.args.date c.args.at.day) c.in_ok-number.number c.new.result
    (sym (c.resolve.ensures ∙ ap (λ m. resolved c.args.date m.day) c.at.view_is) ∙ c.in_ok-number.was) c.new.ensures.in_range c.new.ensures.value

pub returns-clause-none : goal.returns-clause-none
returns-clause-none c =
    not_meant (resolved c.args.date c.args.at.day) c.in_ok-number.number c.new.result
    (sym (c.resolve.ensures ∙ ap (λ m. resolved c.args.date m.day) c.at.view_is) ∙ c.in_ok-number.was) c.new.ensures.in_range
