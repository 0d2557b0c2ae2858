use Rattle.table_load.proofs.Common.{state}
use Rattle.table_load.proofs.Adding.{adds, add_survives}
use Rattle.table_load.proofs.upgrade.create_waybill2.Goals as goal

pub returns-clause-made : goal.returns-clause-made
returns-clause-made g c clean was = adds (state g.S.Store c.args.conn.now) (state g.S.Store c.execute.new.self) _ was (c.execute.ensures.runs clean)

pub returns-clause-survives : goal.returns-clause-survives
returns-clause-survives g c = add_survives _ _ c.execute.ensures.survives
