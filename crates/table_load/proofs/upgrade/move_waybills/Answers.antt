use Rattle.table_load.proofs.Common.{IsInside, IsInsideOld, arith, old_tables_of, state, survives_inside}
use Rattle.table_load.proofs.Upgrading.{now_inside, moves_on}
use Rattle.table_load.proofs.upgrade.move_waybills.Goals as goal

pub returns-in_err-fill_waybill2-clause-survives : goal.returns-in_err-fill_waybill2-clause-survives
returns-in_err-fill_waybill2-clause-survives g c =
    survives_inside (state g.S.Store c.args.conn.now) (state g.S.Store c.create_waybill2.new.conn) (state g.S.Store c.fill_waybill2.new.conn) (IsInsideOld (state g.S.Store c.args.conn.now)) (IsInside (state g.S.Store c.create_waybill2.new.conn))
    c.create_waybill2.ensures.survives (λ clean was. now_inside (state g.S.Store c.args.conn.now) (state g.S.Store c.create_waybill2.new.conn) (old_tables_of (state g.S.Store c.args.conn.now).now.trees) (c.in_ok-create_waybill2.ensures.made clean was)) c.fill_waybill2.ensures.survives

pub returns-clause-made : goal.returns-clause-made
returns-clause-made g c clean was =
    let added = c.in_ok-create_waybill2.ensures.made (omega (arith, c.fill_waybill2.ensures.survives.clean)) was in
    moves_on (state g.S.Store c.args.conn.now) (state g.S.Store c.create_waybill2.new.conn) (state g.S.Store c.fill_waybill2.new.conn) was added (c.in_ok-fill_waybill2.ensures.made clean (now_inside (state g.S.Store c.args.conn.now) (state g.S.Store c.create_waybill2.new.conn) (old_tables_of (state g.S.Store c.args.conn.now).now.trees) added))

pub returns-clause-survives : goal.returns-clause-survives
returns-clause-survives g c =
    survives_inside (state g.S.Store c.args.conn.now) (state g.S.Store c.create_waybill2.new.conn) (state g.S.Store c.fill_waybill2.new.conn) (IsInsideOld (state g.S.Store c.args.conn.now)) (IsInside (state g.S.Store c.create_waybill2.new.conn))
    c.create_waybill2.ensures.survives (λ clean was. now_inside (state g.S.Store c.args.conn.now) (state g.S.Store c.create_waybill2.new.conn) (old_tables_of (state g.S.Store c.args.conn.now).now.trees) (c.in_ok-create_waybill2.ensures.made clean was)) c.fill_waybill2.ensures.survives
