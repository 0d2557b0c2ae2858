use Rattle.state_store.proofs.Common.{flight_row}
use Rattle.state_store.proofs.Walks.{row_then}
use Rattle.state_store.proofs.telling.flights_among.Goals as goal

pub loop-noted-preserved : goal.loop-noted-preserved
loop-noted-preserved g c =
    row_then g.S.StateStore.storing c.args.store.now c.loop-noted.store c.flight_row.new.store (λ s. flight_row s.cargo) c.args.flights.now c.loop-noted.noted-index c.noted-item.result c.loop-noted.rows.items c.push.new.self.items
    c.loop-noted-test.true c.noted-item.is c.loop-noted.invariant c.in_ok-flight_row.ensures c.in_ok-push.ensures.items
