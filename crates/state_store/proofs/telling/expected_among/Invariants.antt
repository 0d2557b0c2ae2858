use Rattle.state_store.proofs.Common.{Ok, ReadsAtRest, expected_row, map, take, ◌≡◌}
use Rattle.state_store.proofs.telling.expected_among.Given as goal

abbrev pub invariant-loop-expectation : goal.invariant-loop-expectation
invariant-loop-expectation g l = ReadsAtRest {E = Unit {0}} g.S.StateStore.storing l.fn.store l.store (Ok l.rows.items) (λ s rows. rows ≡ map (expected_row s.cargo) (take l.expectation-index l.expectations))
