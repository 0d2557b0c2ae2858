use Rattle.state_store.proofs.Common.{irregular_by}
use Rattle.state_store.proofs.Walks.{row_then}
use Rattle.state_store.proofs.telling.irregular_among.Goals as goal

pub loop-waybill-preserved : goal.loop-waybill-preserved
loop-waybill-preserved g c =
    row_then g.S.StateStore.storing c.args.store.now c.loop-waybill.store c.irregular_row.new.store (λ s. irregular_by s.cargo) c.args.waybills.now c.loop-waybill.waybill-index c.waybill-item.result c.loop-waybill.rows.items c.push.new.self.items
    c.loop-waybill-test.true c.waybill-item.is c.loop-waybill.invariant c.in_ok-irregular_row.ensures c.in_ok-push.ensures.items
