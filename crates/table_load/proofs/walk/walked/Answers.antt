use Rattle.table_load.proofs.Common.{AreLawful, FailsToQuery, HasCleanDisk, IsWalked, Ok, Walks, [], arith, rules, state}
use Rattle.table_load.proofs.WalkLemmas.{none_given}
use Rattle.table_load.proofs.WalkLoops.{read_begins, read_stops, stops_since, walks_failed, walks_since}
use Rattle.table_load.proofs.walk.walked.Goals as goal

pub returns-in_err-rows-clause-walks : goal.returns-in_err-rows-clause-walks
returns-in_err-rows-clause-walks g c = λ clean up plain keys agrees begun.
    let held = c.query.follows.holds-at-none in
    let fails : FailsToQuery c.args.text.now [] (state g.S.Store c.args.conn.now) (state g.S.Store c.query.follows.lender-at-none) c.in_err-rows.field-0.0 = search rules in
    walks_failed c.args.text.now [] (state g.S.Store c.args.conn.now) (state g.S.Store c.query.follows.lender-at-none) c.from_residual.result _ c.from_residual.ensures.0
    (read_stops c.args.text.now [] (state g.S.Store c.args.conn.now) (state g.S.Store c.query.follows.lender-at-none) _ plain fails)

pub returns-in_err-walk_rows-clause-walks : goal.returns-in_err-walk_rows-clause-walks
returns-in_err-walk_rows-clause-walks g c = λ clean up plain keys agrees begun.
    let t = g.T.KeyedRow in
    let made = c.in_ok-rows.ensures in
    let late : HasCleanDisk (state g.S.Store c.walk_rows.new.rows.conn.now) = search rules in
    let first : HasCleanDisk (state g.S.Store c.in_ok-rows.rows.conn.now) = omega (arith, late, c.walk_rows.ensures.survives.clean) in
    let began = read_begins g.S.Store c.args.text.now [] c.args.conn.now c.in_ok-rows.rows.conn.now plain (made.begun first) in
    let start = none_given (g.F.RowFold.has c.args.beside.now) t.meant t.to_row t.cmp t.IsLawful c.args.fold begun in
    let stops = c.in_err-walk_rows.ensures.walks late c.args.text.now [] keys began.0 began.1.0.is_open agrees start in
    let whole = stops_since (state g.S.Store c.args.conn.now) (state g.S.Store c.in_ok-rows.rows.conn.now) (state g.S.Store c.walk_rows.new.rows.conn.now) began.1 made.survives.counts stops in
    let done = walks_failed c.args.text.now [] (state g.S.Store c.args.conn.now) (state g.S.Store c.walk_rows.new.rows.conn.now) c.from_residual-in_err-walk_rows.result (IsWalked (g.F.RowFold.has c.args.beside.now) t.meant t.to_row (AreLawful t.cmp t.IsLawful)) c.from_residual-in_err-walk_rows.ensures.0 whole in
    search rules

pub returns-clause-walks : goal.returns-clause-walks
returns-clause-walks g c = λ clean up plain keys agrees begun.
    let t = g.T.KeyedRow in
    let made = c.in_ok-rows.ensures in
    let late : HasCleanDisk (state g.S.Store c.walk_rows.new.rows.conn.now) = search rules in
    let first : HasCleanDisk (state g.S.Store c.in_ok-rows.rows.conn.now) = omega (arith, late, c.walk_rows.ensures.survives.clean) in
    let began = read_begins g.S.Store c.args.text.now [] c.args.conn.now c.in_ok-rows.rows.conn.now plain (made.begun first) in
    let start = none_given (g.F.RowFold.has c.args.beside.now) t.meant t.to_row t.cmp t.IsLawful c.args.fold begun in
    let walks = c.in_ok-walk_rows.ensures.walks late c.args.text.now [] keys began.0 began.1.0.is_open agrees start in
    let whole : Walks c.args.text.now [] (state g.S.Store c.args.conn.now) (state g.S.Store c.walk_rows.new.rows.conn.now) (Ok c.walk_rows.new.walk) (IsWalked (g.F.RowFold.has c.args.beside.now) t.meant t.to_row (AreLawful t.cmp t.IsLawful)) =
    walks_since c.args.text.now [] (state g.S.Store c.args.conn.now) (state g.S.Store c.in_ok-rows.rows.conn.now) (state g.S.Store c.walk_rows.new.rows.conn.now) began.1 made.survives.counts plain (Ok (tt {0})) (λ given x. IsWalked (g.F.RowFold.has c.args.beside.now) t.meant t.to_row (AreLawful t.cmp t.IsLawful) given c.walk_rows.new.walk) walks in
    search rules
