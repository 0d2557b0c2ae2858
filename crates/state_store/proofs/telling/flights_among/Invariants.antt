use Rattle.state_store.proofs.Common.{Ok, ReadsAtRest, flight_row, map, take, ◌≡◌}
use Rattle.state_store.proofs.telling.flights_among.Given as goal

abbrev pub invariant-loop-noted : goal.invariant-loop-noted
invariant-loop-noted g l = ReadsAtRest {E = Unit {0}} g.S.StateStore.storing l.fn.store l.store (Ok l.rows.items) (λ s rows. rows ≡ map (flight_row s.cargo) (take l.noted-index l.flights))
