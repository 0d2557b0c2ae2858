use Rattle.agent_stock.proofs.Common.{Some, cond, holders_of, nat_le, nat_lt, ℕ, ◌&&◌, ◌≡◌}
use Rattle.agent_stock.proofs.rows.PlainRowsStockRows.assign.Given as goal

-- the numbers so far are with the holder
abbrev pub invariant-loop-key : goal.invariant-loop-key
invariant-loop-key l = (q : ℕ) → holders_of l.self q ≡ cond (nat_le l.run.first q && nat_lt q l.key) (Some l.holder) (holders_of l.fn.self q)
