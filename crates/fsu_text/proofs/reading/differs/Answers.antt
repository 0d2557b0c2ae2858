use Rattle.fsu_text.proofs.Common.{codes, sym}
use Rattle.fsu_text.proofs.Cuts.{differs_longer}
use Rattle.fsu_text.proofs.reading.differs.Goals as goal

pub returns-in-Some : goal.returns-in-Some
returns-in-Some c =
    sym (differs_longer (codes "DIS") c.args.text.now c.in_ok-flight.flight.1.now c.in_ok-day.day.1.now c.in_ok-airport.airport.1.now c.in_ok-what.what.1.now c.in-Some.field-0.1.now
    _ _ _ _ _ c.in_ok-flight.ensures.some c.in_ok-day.ensures.some c.in_ok-airport.ensures.some c.in_ok-what.ensures.some c.in-Some.ensures.some)
