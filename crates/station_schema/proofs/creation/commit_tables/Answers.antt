use Rattle.station_schema.proofs.Common.{IsOwn, ap, arith, state, subst, survives_then, survives_weaker, sym, tables_of, ◌∙◌}
use Rattle.station_schema.proofs.creation.commit_tables.Goals as goal

pub returns-in_err-fill_tables-clause-survives : goal.returns-in_err-fill_tables-clause-survives
returns-in_err-fill_tables-clause-survives g c = survives_weaker (state g.S.Store c.args.conn.now) (state g.S.Store c.fill_tables.new.conn) _ _ (λ _ db none was. absurd (none was)) c.fill_tables.ensures.survives

pub returns-in_err-commit-clause-survives : goal.returns-in_err-commit-clause-survives
returns-in_err-commit-clause-survives g c =
    survives_then (state g.S.Store c.args.conn.now) (state g.S.Store c.fill_tables.new.conn) (state g.S.Store c.commit.new.conn) _ _ _ (λ _ db none was. absurd (none was))
    (λ clean db is was.
    let filled = c.in_ok-fill_tables.ensures.made (omega (arith, c.commit.ensures.survives.clean)) was in
    record { own = subst IsOwn (sym is) (c.shows_own.ensures filled.shown.is_open filled.station.schema); tables = ap tables_of is ∙ filled.tables }) c.fill_tables.ensures.survives c.commit.ensures.survives
