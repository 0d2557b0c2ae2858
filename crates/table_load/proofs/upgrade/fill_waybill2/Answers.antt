use Rattle.table_load.proofs.Common.{IsInside, clearing, copying, state, survives_inside, survives_three}
use Rattle.table_load.proofs.Upgrading.{still_inside}
use Rattle.table_load.proofs.upgrade.fill_waybill2.Goals as goal

pub returns-in_err-clear_waybills-clause-survives : goal.returns-in_err-clear_waybills-clause-survives
returns-in_err-clear_waybills-clause-survives g c =
    survives_inside (state g.S.Store c.args.conn.now) (state g.S.Store c.copy_waybills.new.conn) (state g.S.Store c.clear_waybills.new.conn) (IsInside (state g.S.Store c.args.conn.now)) (IsInside (state g.S.Store c.copy_waybills.new.conn))
    c.copy_waybills.ensures.survives (λ clean was. still_inside (state g.S.Store c.args.conn.now) (state g.S.Store c.copy_waybills.new.conn) copying (c.in_ok-copy_waybills.ensures.made clean was)) c.clear_waybills.ensures.survives

pub returns-in_err-raise_version-clause-survives : goal.returns-in_err-raise_version-clause-survives
returns-in_err-raise_version-clause-survives g c =
    survives_three (state g.S.Store c.args.conn.now) (state g.S.Store c.copy_waybills.new.conn) (state g.S.Store c.clear_waybills.new.conn) (state g.S.Store c.raise_version.new.conn) (IsInside (state g.S.Store c.args.conn.now)) (IsInside (state g.S.Store c.copy_waybills.new.conn)) (IsInside (state g.S.Store c.clear_waybills.new.conn))
    c.copy_waybills.ensures.survives (λ clean was. still_inside (state g.S.Store c.args.conn.now) (state g.S.Store c.copy_waybills.new.conn) copying (c.in_ok-copy_waybills.ensures.made clean was)) c.clear_waybills.ensures.survives (λ clean was. still_inside (state g.S.Store c.copy_waybills.new.conn) (state g.S.Store c.clear_waybills.new.conn) clearing (c.in_ok-clear_waybills.ensures.made clean was)) c.raise_version.ensures.survives

pub returns-clause-survives : goal.returns-clause-survives
returns-clause-survives g c =
    survives_three (state g.S.Store c.args.conn.now) (state g.S.Store c.copy_waybills.new.conn) (state g.S.Store c.clear_waybills.new.conn) (state g.S.Store c.raise_version.new.conn) (IsInside (state g.S.Store c.args.conn.now)) (IsInside (state g.S.Store c.copy_waybills.new.conn)) (IsInside (state g.S.Store c.clear_waybills.new.conn))
    c.copy_waybills.ensures.survives (λ clean was. still_inside (state g.S.Store c.args.conn.now) (state g.S.Store c.copy_waybills.new.conn) copying (c.in_ok-copy_waybills.ensures.made clean was)) c.clear_waybills.ensures.survives (λ clean was. still_inside (state g.S.Store c.copy_waybills.new.conn) (state g.S.Store c.clear_waybills.new.conn) clearing (c.in_ok-clear_waybills.ensures.made clean was)) c.raise_version.ensures.survives
