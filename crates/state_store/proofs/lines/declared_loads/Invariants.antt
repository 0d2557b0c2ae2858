use Rattle.state_store.proofs.Common.{Ok, Reads, aboard_of, map, take, ◌≡◌}
use Rattle.state_store.proofs.lines.declared_loads.Given as goal

abbrev pub invariant-loop-load : goal.invariant-loop-load
invariant-loop-load g l = Reads {E = Unit {0}} g.S.StateStore.storing l.fn.store l.store (Ok l.rows.items) (λ s rows. rows ≡ map (aboard_of s.cargo) (take l.load-index l.loads))
