use Rattle.state_store.proofs.Common.{Ok, ReadsAtRest, irregular_by, map, take, ◌≡◌}
use Rattle.state_store.proofs.telling.irregular_among.Given as goal

abbrev pub invariant-loop-waybill : goal.invariant-loop-waybill
invariant-loop-waybill g l = ReadsAtRest {E = Unit {0}} g.S.StateStore.storing l.fn.store l.store (Ok l.rows.items) (λ s rows. rows ≡ map (irregular_by s.cargo) (take l.waybill-index l.waybills))
