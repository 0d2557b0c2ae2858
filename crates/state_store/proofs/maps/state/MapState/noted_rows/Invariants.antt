use Rattle.std.proofs.Common.{◌≡◌, ◌++◌, map}
use Rattle.state_store.proofs.NotedOrder.{noted_of}
use Rattle.state_store.proofs.maps.state.MapState.noted_rows.Given as goal

-- the flights so far and those ahead are all
abbrev pub invariant-loop-key : goal.invariant-loop-key
invariant-loop-key l = l.rows.items ++ map noted_of l.key-iterator ≡ map noted_of l.self.flights.entries
