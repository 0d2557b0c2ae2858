use Rattle.table_state.proofs.Common.{contains, list_any, nat_cmp, take, ℕ, ◌≡◌}
use Rattle.table_state.proofs.Announced.{comes}
use Rattle.table_state.proofs.expecting.numbers_come.Given as goal

-- the numbers so far are those of the waybills so far of which pieces have come in
abbrev pub invariant-loop-waybill : goal.invariant-loop-waybill
invariant-loop-waybill l = (w : ℕ) → contains nat_cmp l.numbers w ≡ list_any (comes w) (take l.waybill-index l.waybills)
