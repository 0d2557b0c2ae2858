use Rattle.telegrams.proofs.Common.{ap, status_of_event, sym, ◌∙◌}
use Rattle.fsu_text.specs.declared.sent.SentStatus.TheVariants as sent
use Rattle.telegrams.proofs.notice.status_of.Goals as goal

pub returns-in-ReceivedFromShipper : goal.returns-in-ReceivedFromShipper
returns-in-ReceivedFromShipper c = c.handled.ensures ∙ ap status_of_event (sym c.in-ReceivedFromShipper.is)

pub returns-in-ReceivedFromFlight : goal.returns-in-ReceivedFromFlight
returns-in-ReceivedFromFlight c =
    ap (λ w. sent.ReceivedFromFlight c.in-ReceivedFromFlight.flight.flight w) c.at.ensures ∙ ap status_of_event (sym c.in-ReceivedFromFlight.is)

pub returns-in-Notified : goal.returns-in-Notified
returns-in-Notified c = c.handled-in-Notified.ensures ∙ ap status_of_event (sym c.in-Notified.is)

pub returns-in-Delivered : goal.returns-in-Delivered
returns-in-Delivered c = c.handled-in-Delivered.ensures ∙ ap status_of_event (sym c.in-Delivered.is)

pub returns-in-Differs : goal.returns-in-Differs
returns-in-Differs c =
    ap (λ w. sent.Differs c.in-Differs.discrepancy c.in-Differs.flight.flight w) c.at-in-Differs.ensures ∙ ap status_of_event (sym c.in-Differs.is)
