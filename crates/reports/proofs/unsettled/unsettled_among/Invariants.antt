use Rattle.reports.proofs.Common.{OnlyReads, State, filter, is_unsettled, take, ◌≡◌}
use Rattle.reports.proofs.unsettled.unsettled_among.Given as goal

-- the unsettled ones of the rows so far
abbrev pub invariant-loop-row : goal.invariant-loop-row
invariant-loop-row g l =
    OnlyReads g.K.Keeper.keeping l.fn.keeper l.keeper
    × ((s : State) → g.K.Keeper.keeping.keeps l.fn.keeper s → g.K.Keeper.keeping.is_sound l.keeper → l.unsettled.items ≡ filter (λ row. is_unsettled s.cargo row.awb) (take l.row-index l.rows))
