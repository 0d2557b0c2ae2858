use Rattle.table_state.proofs.Common.{AnnouncedRow, is_in, map, take, true, ℕ, ◌≡◌}
use Rattle.table_state.proofs.waybill_sets.numbers_announced.Given as goal

-- the numbers of the waybills so far are there
abbrev pub invariant-loop-row : goal.invariant-loop-row
invariant-loop-row l = (w : ℕ) → is_in w (map (λ (row : AnnouncedRow). row.awb) (take l.row-index l.rows)) ≡ true → is_in w l.numbers.keys ≡ true
