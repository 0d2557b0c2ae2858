use Rattle.reports.proofs.Common.{AreDated, OnlyReads, State, take}
use Rattle.reports.proofs.days.all_dated.Given as goal

-- the rows so far have their days
abbrev pub invariant-loop-row : goal.invariant-loop-row
invariant-loop-row g l =
    OnlyReads g.K.Keeper.keeping l.fn.keeper l.keeper
    × ((s : State) → g.K.Keeper.keeping.keeps l.fn.keeper s → g.K.Keeper.keeping.is_sound l.keeper → AreDated l.lasting g.Row.HasAwb.number s.cargo (take l.row-index l.rows) l.dated.items)
