use Rattle.table_load.proofs.Common.{state}
use Rattle.table_load.proofs.WholeLemmas.{shows_whole, stops, survives}
use Rattle.table_load.proofs.query.table_rows.Goals as goal

pub returns-in-Ok-clause-read : goal.returns-in-Ok-clause-read
returns-in-Ok-clause-read g c clean up =
    shows_whole c.args.query.now c.requires.selects (state g.S.Store c.args.conn.now) (state g.S.Store c.query_all.new.self) c.schema.ensures.value c.has_table.ensures c.if-not-has_table.false c.in-Ok.rows (c.in-Ok.ensures.ok clean)

pub returns-in-Err-clause-read : goal.returns-in-Err-clause-read
returns-in-Err-clause-read g c clean up =
    stops c.args.query.now c.requires.selects (state g.S.Store c.args.conn.now) (state g.S.Store c.query_all.new.self) c.schema.ensures.value c.has_table.ensures c.if-not-has_table.false c.in-Err.error (c.in-Err.ensures.err clean)

pub returns-in-Ok-clause-survives : goal.returns-in-Ok-clause-survives
returns-in-Ok-clause-survives g c =
    survives c.args.query.now c.requires.selects (state g.S.Store c.args.conn.now) (state g.S.Store c.query_all.new.self) c.schema.ensures.value c.has_table.ensures c.if-not-has_table.false c.query_all.ensures.survives

pub returns-in-Err-clause-survives : goal.returns-in-Err-clause-survives
returns-in-Err-clause-survives g c =
    survives c.args.query.now c.requires.selects (state g.S.Store c.args.conn.now) (state g.S.Store c.query_all.new.self) c.schema.ensures.value c.has_table.ensures c.if-not-has_table.false c.query_all.ensures.survives
