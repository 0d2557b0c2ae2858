use Rattle.table_state.proofs.Common.{WaybillBalances, is_in, map, take, true, ℕ, ◌≡◌}
use Rattle.table_state.proofs.waybill_sets.numbers_of.Given as goal

-- the numbers of the waybills so far are there
abbrev pub invariant-loop-waybill : goal.invariant-loop-waybill
invariant-loop-waybill l = (w : ℕ) → is_in w (map (λ (row : WaybillBalances). row.awb) (take l.waybill-index l.waybills)) ≡ true → is_in w l.numbers.keys ≡ true
