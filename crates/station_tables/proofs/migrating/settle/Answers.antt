use Rattle.station_tables.proofs.Common.{First, IsJudged, read_as, state, subst}
use Rattle.station_tables.proofs.Looked.{survives_same}
use Rattle.station_tables.proofs.Migrated.{found_only, found_was, store_says, not_store, same_after, undone_same}
use Rattle.station_tables.proofs.migrating.settle.Goals as goal

pub returns-in-Ok-clause-was : goal.returns-in-Ok-clause-was
returns-in-Ok-clause-was g c = λ at. found_was _ _ (subst (IsJudged (read_as First (state g.S.Store c.args.conn).now)) c.in-Ok.is at) _

pub returns-in-Ok-clause-refused : goal.returns-in-Ok-clause-refused
returns-in-Ok-clause-refused g c = λ at. store_says _ _ c.upgrade.ensures.fault

pub returns-in-Ok-clause-spares : goal.returns-in-Ok-clause-spares
returns-in-Ok-clause-spares g c = not_store _ _ c.upgrade.ensures.fault

pub returns-in-Err-clause-refused : goal.returns-in-Err-clause-refused
returns-in-Err-clause-refused g c = λ at. c.old_fault.ensures.refuses _ (subst (IsJudged (read_as First (state g.S.Store c.args.conn).now)) c.in-Err.is at)

pub returns-in-Err-clause-survives : goal.returns-in-Err-clause-survives
returns-in-Err-clause-survives g c = same_after _ _

pub returns-in-Err-clause-spares : goal.returns-in-Err-clause-spares
returns-in-Err-clause-spares g c = λ other. survives_same _

pub returns-in-Ok-clause-unmoved : goal.returns-in-Ok-clause-unmoved
returns-in-Ok-clause-unmoved g c = not_store _ _ c.upgrade.ensures.fault

pub returns-in-Err-clause-undone : goal.returns-in-Err-clause-undone
returns-in-Err-clause-undone g c = λ clean was rest. undone_same _ rest

pub returns-in-Err-clause-unmoved : goal.returns-in-Err-clause-unmoved
returns-in-Err-clause-unmoved g c = λ other rest. undone_same _ rest

pub returns-in-Ok-clause-only : goal.returns-in-Ok-clause-only
returns-in-Ok-clause-only g c = λ at none. found_only _ _ _ (subst (IsJudged (read_as First (state g.S.Store c.args.conn).now)) c.in-Ok.is at) none

pub returns-in-Err-clause-only : goal.returns-in-Err-clause-only
returns-in-Err-clause-only g c = λ at none. survives_same _
