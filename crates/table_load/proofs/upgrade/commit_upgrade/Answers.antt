use Rattle.table_load.proofs.Common.{ap, arith, state, subst, survives_then, survives_weaker, sym, tables_of, ◌∙◌}
use Rattle.station_schema.specs.Connection.{IsOwn}
use Rattle.table_load.proofs.upgrade.commit_upgrade.Goals as goal

pub returns-in_err-move_waybills-clause-survives : goal.returns-in_err-move_waybills-clause-survives
returns-in_err-move_waybills-clause-survives g c = survives_weaker (state g.S.Store c.args.conn.now) (state g.S.Store c.move_waybills.new.conn) _ _ (λ _ db none was. absurd (none was)) c.move_waybills.ensures.survives

pub returns-in_err-commit-clause-survives : goal.returns-in_err-commit-clause-survives
returns-in_err-commit-clause-survives g c =
    survives_then (state g.S.Store c.args.conn.now) (state g.S.Store c.move_waybills.new.conn) (state g.S.Store c.commit.new.conn) _ _ _ (λ _ db none was. absurd (none was))
    (λ clean db is was.
    let moved = c.in_ok-move_waybills.ensures.made (omega (arith, c.commit.ensures.survives.clean)) was in
    record { own = subst IsOwn (sym is) (c.shows_own.ensures moved.shown.is_open moved.station.schema); tables = ap tables_of is ∙ moved.tables })
    c.move_waybills.ensures.survives c.commit.ensures.survives

pub returns-clause-survives : goal.returns-clause-survives
returns-clause-survives g c =
    survives_then (state g.S.Store c.args.conn.now) (state g.S.Store c.move_waybills.new.conn) (state g.S.Store c.commit.new.conn) _ _ _ (λ _ db none was. absurd (none was))
    (λ clean db is was.
    let moved = c.in_ok-move_waybills.ensures.made (omega (arith, c.commit.ensures.survives.clean)) was in
    record { own = subst IsOwn (sym is) (c.shows_own.ensures moved.shown.is_open moved.station.schema); tables = ap tables_of is ∙ moved.tables })
    c.move_waybills.ensures.survives c.commit.ensures.survives
