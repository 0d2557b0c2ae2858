use Rattle.state_store.proofs.Common.{Ok, ReadsAtRest, map, shed_by, take, ◌≡◌}
use Rattle.state_store.proofs.telling.shed_among.Given as goal

abbrev pub invariant-loop-waybill : goal.invariant-loop-waybill
invariant-loop-waybill g l = ReadsAtRest {E = Unit {0}} g.S.StateStore.storing l.fn.store l.store (Ok l.rows.items) (λ s rows. rows ≡ map (shed_by s.cargo) (take l.waybill-index l.waybills))
