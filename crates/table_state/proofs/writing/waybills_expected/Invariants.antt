use Rattle.table_state.proofs.Common.{Some, expectation_by, listed_waybill_meant, map, take, ◌≡◌}
use Rattle.table_state.proofs.writing.waybills_expected.Given as goal

abbrev pub invariant-loop-row : goal.invariant-loop-row
invariant-loop-row l = map Some l.all.items ≡ map (λ row. expectation_by (listed_waybill_meant row)) (take l.row-index l.rows)
