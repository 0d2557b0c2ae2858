use Rattle.station_rows.proofs.Common.{List, Row, Shown, reads, refl, state, ◌≡◌}
use Rattle.sqlite.specs.Values.{bound}
use Rattle.station_rows.proofs.statements.shown_rows.Goals as goal

pub returns-clause-read : goal.returns-clause-read
returns-clause-read g c clean plain =
    let old = state g.S.Store c.args.conn.now in
    let new = state g.S.Store c.query_all.new.self in
    reads c.args.sql.now (bound c.args.params.now) old new c.args.conn.now.schema refl plain (λ all. (rows : List Row) × Shown c.args.sql.now (bound c.args.params.now) old new rows × (all ≡ rows)) (λ rows shown. (rows, shown, refl)) _
    (c.query_all.ensures.ok clean) (c.query_all.ensures.err clean)
