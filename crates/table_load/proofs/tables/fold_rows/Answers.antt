use Rattle.std.proofs.Math.Path.{subst₂}
use Rattle.table_load.proofs.Common.{AreLawful, HoldsTable, Reads, column_names, state}
use Rattle.table_load.proofs.TableLemmas.{reads_failed, reads_folded}
use Rattle.table_load.proofs.WholeLemmas.{given_whole, plain, survives}
use Rattle.table_load.specs.Held.{TellsFold}
use Rattle.table_load.proofs.tables.fold_rows.Goals as goal

pub returns-in_err-walk-clause-read : goal.returns-in_err-walk-clause-read
returns-in_err-walk-clause-read g c = λ clean up.
    let old = state g.S.Store c.args.conn.now in
    let new = state g.S.Store c.walked.new.conn in
    let query = c.query-query.result in
    let reads = plain query c.query-query.ensures.selects old new c.schema.ensures.value c.has_table.ensures c.if-not-has_table.false in
    reads_failed old new c.from_residual.result _ c.from_residual.ensures.0 (c.in_err-walk.ensures.walks clean up reads query.keys c.query-query.ensures.agrees c.requires.begun)

pub returns-in_err-walk-clause-survives : goal.returns-in_err-walk-clause-survives
returns-in_err-walk-clause-survives g c =
    survives c.query-query.result c.query-query.ensures.selects (state g.S.Store c.args.conn.now) (state g.S.Store c.walked.new.conn) c.schema.ensures.value c.has_table.ensures c.if-not-has_table.false c.walked.ensures.survives

pub returns-clause-read : goal.returns-clause-read
returns-clause-read g c = λ clean up.
    let t = g.T.KeyedRow in
    let query = c.query-query.result in
    let old = state g.S.Store c.args.conn.now in
    let new = state g.S.Store c.walked.new.conn in
    let reads = plain query c.query-query.ensures.selects old new c.schema.ensures.value c.has_table.ensures c.if-not-has_table.false in
    let walks = c.in_ok-walk.ensures.walks clean up reads query.keys c.query-query.ensures.agrees c.requires.begun in
    let Has = g.F.RowFold.has c.args.beside.now in
    subst₂ (λ name columns. Reads old new c.ended.result (TellsFold Has t.meant (HoldsTable old.now name columns t.to_row (AreLawful t.cmp t.IsLawful))))
    c.query-query.ensures.named c.query-query.ensures.columns
    (reads_folded query.keys t.to_row t.cmp c.query-query.ensures.agrees t.IsLawful Has t.meant old.now query.name.now (column_names query) walks.1 old new
    (given_whole query c.query-query.ensures.selects old new c.schema.ensures.value c.has_table.ensures c.if-not-has_table.false walks.1 walks.2) walks.0 c.ended.result (c.ended.ensures walks.1 walks.3))

pub returns-clause-survives : goal.returns-clause-survives
returns-clause-survives g c =
    survives c.query-query.result c.query-query.ensures.selects (state g.S.Store c.args.conn.now) (state g.S.Store c.walked.new.conn) c.schema.ensures.value c.has_table.ensures c.if-not-has_table.false c.walked.ensures.survives
