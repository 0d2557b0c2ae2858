use Rattle.agent_stock.proofs.Common.{find, holders_of, lowest_failing, not, passes, range_with_len, ◌-◌, ◌≡◌}
use Rattle.agent_stock.proofs.rows.PlainRowsStockRows.uniform.Given as goal

-- what is looked for lies ahead
abbrev pub invariant-loop-key : goal.invariant-loop-key
invariant-loop-key l =
    lowest_failing (holders_of l.fn.self) l.run l.test ≡ find (λ q. not (passes l.test (holders_of l.fn.self q))) (range_with_len l.key-counter (l.key-end - l.key-counter))
