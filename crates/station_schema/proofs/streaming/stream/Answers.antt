use Rattle.station_schema.proofs.Common.{FailsToQuery, HasCleanDisk, arith, begun_plain, rules, state}
use Rattle.sqlite.specs.Values.{bound}
use Rattle.station_schema.proofs.Handing.{begun_then, not_begun, returns_nothing}
use Rattle.station_schema.proofs.streaming.stream.Goals as goal

pub returns-in_err-rows-clause-streams : goal.returns-in_err-rows-clause-streams
returns-in_err-rows-clause-streams g c = λ clean plain.
    let held = c.query.follows.holds-at-none in
    let fails : FailsToQuery c.args.sql.now (bound c.args.params.now) (state g.S.Store c.args.conn.now) (state g.S.Store c.query.follows.lender-at-none) c.in_err-rows.field-0.0 = search rules in
    not_begun _ _ _ _ _ _ _ c.from_residual.ensures.0 plain _ fails

pub returns-clause-streams : goal.returns-clause-streams
returns-clause-streams g c = λ clean plain.
    let made = c.in_ok-rows.ensures in
    let late : HasCleanDisk (state g.S.Store c.hand_rows.new.rows.conn.now) = search rules in
    let first : HasCleanDisk (state g.S.Store c.in_ok-rows.rows.conn.now) = omega (arith, late, c.hand_rows.ensures.survives.clean) in
    let began = begun_plain g.S.Store c.args.sql.now (bound c.args.params.now) c.args.conn.now c.in_ok-rows.rows.conn.now plain (made.begun first) in
    let streams = c.hand_rows.ensures.streams late c.args.sql.now (bound c.args.params.now) began.0 began.1.0.is_open in
    let whole = begun_then _ c.args.sql.now (bound c.args.params.now) (state g.S.Store c.args.conn.now) (state g.S.Store c.in_ok-rows.rows.conn.now) (state g.S.Store c.hand_rows.new.rows.conn.now) _ _ _ began.1 made.survives.counts (returns_nothing _ plain) streams in
    search rules
