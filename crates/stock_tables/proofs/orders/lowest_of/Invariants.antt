use Rattle.stock_tables.proofs.Common.{Holders, IsTrue, StandFrom, covers, drop, holders_by, ℕ, ◌≡◌}
use Rattle.stock_tables.proofs.Lowest.{Left}
use Rattle.stock_tables.proofs.orders.lowest_of.Given as goal

-- what is looked for is among the rows ahead
abbrev pub invariant-loop-row : goal.invariant-loop-row
invariant-loop-row l = (h : Holders) → StandFrom 0 l.near → ((q : ℕ) → IsTrue (covers l.run q) → holders_by l.near q ≡ h q) → Left h l.run l.test l.near (drop l.row-index l.near) l.next
