-- The last rows that begin below a number, and the rows that begin in a run.
use Rattle.std.specs.Prelude.{ℕ, ◌+◌, ◌-◌, length, drop, Bool, ◌&&◌, nat_eq, nat_le, nat_lt, Option, None, List, filter}
use Rattle.stock_tables.specs.Common.{last_or, prefix_of, Run, StockRun}

-- a row of a prefix begins below a number
abbrev pub is_below : ℕ → ℕ → StockRun → Bool
is_below prefix number row = nat_eq (prefix_of row.first) prefix && nat_lt row.first number

-- the last of them
abbrev pub last_below : ℕ → ℕ → List StockRun → Option StockRun
last_below prefix number rows = last_or None (filter (is_below prefix number) rows)

-- a row begins in a run, or behind its last number
abbrev pub is_from : Run → StockRun → Bool
is_from run row = nat_eq (prefix_of row.first) (prefix_of run.first) && (nat_le run.first row.first && nat_le row.first (run.first + run.count))

-- the last rows that begin in a run, right behind it or before it, so many at most
abbrev pub last_to_end : ℕ → Run → List StockRun → List StockRun
last_to_end count run rows =
    let all = filter (is_below (prefix_of run.first) (run.first + run.count + 1)) rows in
    drop (length all - count) all
