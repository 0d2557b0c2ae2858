use Rattle.std.proofs.Common.{◌≡◌, filter, map, not, take}
use Rattle.table_state.proofs.Common.{AnnouncedRow, WaybillRow, announced_by, contains, nat_cmp, waybill_meant}
use Rattle.table_state.proofs.expecting.announced_among.Given as goal

abbrev pub invariant-loop-row : goal.invariant-loop-row
invariant-loop-row l = l.all.items ≡ filter (λ (one : AnnouncedRow). not (contains nat_cmp l.come one.awb)) (map (λ (row : WaybillRow). announced_by (waybill_meant row)) (take l.row-index l.rows))
