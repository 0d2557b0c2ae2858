use Rattle.std.proofs.Common.{◌≡◌, ◌++◌, map}
use Rattle.agent_stock.proofs.Keyed.{row_of}
use Rattle.agent_stock.proofs.rows.PlainRows.in_stock.Given as goal

-- the rows so far and those ahead are the map's
abbrev pub invariant-loop-key : goal.invariant-loop-key
invariant-loop-key l = l.rows.items ++ map row_of l.key-iterator ≡ map row_of l.self.by_number.entries
