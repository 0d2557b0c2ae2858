use Rattle.fsu_text.proofs.Common.{codes, sym}
use Rattle.fsu_text.proofs.Cuts.{received_longer}
use Rattle.fsu_text.proofs.reading.received.Goals as goal

pub returns-in-Some : goal.returns-in-Some
returns-in-Some c =
    sym (received_longer (codes "RCF") c.args.text.now c.in_ok-flight.flight.1.now c.in_ok-at.at.1.now c.in_ok-airport.airport.1.now c.in-Some.field-0.1.now
    _ _ _ _ c.in_ok-flight.ensures.some c.in_ok-at.ensures.some c.in_ok-airport.ensures.some c.in-Some.ensures.some)
