use Rattle.reports.proofs.Common.{OnlyReads, State, map, take, ◌≡◌}
use Rattle.reports.specs.Arrivals.{arrival_row}
use Rattle.reports.proofs.arrivals.arrivals_among.Given as goal

-- the rows so far
abbrev pub invariant-loop-row : goal.invariant-loop-row
invariant-loop-row g l =
    OnlyReads g.K.Keeper.keeping l.fn.keeper l.keeper
    × ((s : State) → g.K.Keeper.keeping.keeps l.fn.keeper s → g.K.Keeper.keeping.is_sound l.keeper → l.rows.items ≡ map (arrival_row s.cargo.book) (take l.row-index l.expected))
