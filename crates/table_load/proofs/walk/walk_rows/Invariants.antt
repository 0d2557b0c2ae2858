use Rattle.std.proofs.Common.{◌≡◌}
use Rattle.table_load.proofs.WalkLoops.{HasCome}
use Rattle.table_load.proofs.walk.walk_rows.Given as goal

abbrev pub invariant-loop : goal.invariant-loop
invariant-loop g l =
    let t = g.T.KeyedRow in
    (l.rows.conn.ghost_name ≡ l.fn.rows.conn.ghost_name) × HasCome g.S.Store (g.F.RowFold.has l.beside) t.meant t.to_row t.cmp t.IsLawful l.fn.rows.conn.now l.fn.walk l.rows.conn.now l.walk
