use Rattle.std.proofs.Common.{◌≡◌, take, filter}
use Rattle.table_state.proofs.Common.{WaybillBalances, is_asked_for}
use Rattle.table_state.proofs.waybill_sets.asked_among.Given as goal

abbrev pub invariant-loop-waybill : goal.invariant-loop-waybill
invariant-loop-waybill l = l.rows.items ≡ filter (λ (row : WaybillBalances). is_asked_for l.query row.balances) (take l.waybill-index l.waybills)
