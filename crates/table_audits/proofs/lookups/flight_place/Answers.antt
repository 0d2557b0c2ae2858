use Rattle.table_audits.proofs.Common.{always_returns_same, flight_cmp, flight_entry, rules}
use Rattle.table_audits.proofs.lookups.flight_place.Goals as goal

pub returns-clause-place : goal.returns-clause-place
returns-clause-place c = c.binary_search_by.ensures.position (λ row. flight_cmp (flight_entry row).0 (c.args.flight.now, c.args.day.now)) (always_returns_same _ _ _ (λ a r q k. search rules))
