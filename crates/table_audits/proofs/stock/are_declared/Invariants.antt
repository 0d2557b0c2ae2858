use Rattle.table_audits.proofs.Common.{IsTrue, RisesByNumber, has_waybill, int_le, int_lt, map, waybill_meant, ℤ}
use Rattle.table_audits.proofs.stock.are_declared.Given as goal

abbrev pub invariant-loop-number : goal.invariant-loop-number
invariant-loop-number l = IsTrue (int_le l.first l.number) × (RisesByNumber (map waybill_meant l.waybills) → (n : ℤ) → IsTrue (int_le l.first n) → IsTrue (int_lt n l.number) → IsTrue (has_waybill (map waybill_meant l.waybills) n))
