use Rattle.state_store.proofs.Common.{expected_row}
use Rattle.state_store.proofs.Walks.{row_then}
use Rattle.state_store.proofs.telling.expected_among.Goals as goal

pub loop-expectation-preserved : goal.loop-expectation-preserved
loop-expectation-preserved g c =
    row_then g.S.StateStore.storing c.args.store.now c.loop-expectation.store c.expected_row.new.store (λ s. expected_row s.cargo) c.args.expectations.now c.loop-expectation.expectation-index c.expectation-item.result c.loop-expectation.rows.items c.push.new.self.items
    c.loop-expectation-test.true c.expectation-item.is c.loop-expectation.invariant c.in_ok-expected_row.ensures c.in_ok-push.ensures.items
