use Rattle.table_state.proofs.Common.{Ok, ReadsAtRest, announcing, flat_map, in_tables, ◌++◌, ◌≡◌}
use Rattle.table_state.proofs.state.TableState.announced_in.Given as goal

-- the rows so far and those ahead are the rows of all
abbrev pub invariant-loop-number : goal.invariant-loop-number
invariant-loop-number g l = ReadsAtRest {E = Unit {0}} (in_tables g.S.TableStore.view) l.fn.self l.self (Ok l.rows.items) (λ s rows. rows ++ flat_map (announcing s.cargo) l.number-iterator ≡ flat_map (announcing s.cargo) l.waybills.keys)
