use Rattle.table_audits.proofs.Common.{YieldsList-from_slice, all_from_yields_List, flight_entry, is_lawful_flight, refl, rules, tests}
use Rattle.table_audits.proofs.FlightLaws.{are_flights, lawful_flights}
use Rattle.table_audits.proofs.Tables.{are, as_law, missing, tested, flight_table}
use Rattle.table_audits.proofs.flight.is_good.Goals as goal

pub returns-in_default-clause-read : goal.returns-in_default-clause-read
returns-in_default-clause-read g c = λ clean up so_far knows. missing (flight_table _) so_far (rw c.in_default.is at c.in_ok-rows.ensures.read clean up)

pub returns-clause-read : goal.returns-clause-read
returns-clause-read g c = λ clean up so_far knows.
    let read = c.in_ok-rows.ensures.read clean up in
    let held = rw c.in-Some.is at read.0 in
    let says = all_from_yields_List (λ row. is_lawful_flight c.args.known.now.here (flight_entry row)) _ _ _ c.all-is_lawful.ensures.ran (YieldsList-from_slice c.in-Some.rows.items cc) (λ x b q k. search (rules, tests)) in
    (tested (flight_table _) so_far _ held c.all-is_lawful.result (λ t so is. let at = (knows.0 t so.1.1.1).0 in as_law _ (is_lawful_flight c.args.known.now.here) flight_entry _ _ says is (are_flights t _ at) (lawful_flights t _ at)) (refl, (knows.0, knows.1, λ t so. are (flight_table _) so_far _ held t so.0.held)), read.1)
