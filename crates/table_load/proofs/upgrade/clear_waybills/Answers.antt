use Rattle.table_load.proofs.Common.{changes, state}
use Rattle.table_load.proofs.Copying.{clears, clear_survives}
use Rattle.table_load.proofs.upgrade.clear_waybills.Goals as goal

pub returns-clause-made : goal.returns-clause-made
returns-clause-made g c clean inside =
    changes _ _ (state g.S.Store c.args.conn.now) (state g.S.Store c.execute.new.self) _ (λ count. clears (state g.S.Store c.args.conn.now) (state g.S.Store c.execute.new.self) count inside) _ (c.execute.ensures.runs clean)

pub returns-clause-survives : goal.returns-clause-survives
returns-clause-survives g c = clear_survives _ _ c.execute.ensures.survives
