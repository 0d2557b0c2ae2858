use Rattle.station_schema.proofs.Common.{HasCleanDisk, KeepsCommit, Survives, state, ◌≡◌}
use Rattle.station_schema.proofs.beside.declare.Given as goal

abbrev pub invariant-loop-text : goal.invariant-loop-text
invariant-loop-text g l =
    (l.tables.conn.ghost_name ≡ l.fn.tables.conn.ghost_name)
    × (HasCleanDisk (state g.S.Store l.tables.conn.now) → KeepsCommit (state g.S.Store l.fn.tables.conn.now) (state g.S.Store l.tables.conn.now)
    × ((state g.S.Store l.tables.conn.now).in_transaction ≡ (state g.S.Store l.fn.tables.conn.now).in_transaction))
    × Survives (state g.S.Store l.fn.tables.conn.now) (state g.S.Store l.tables.conn.now) (λ _. ⊥)
