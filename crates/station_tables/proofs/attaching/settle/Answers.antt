use Rattle.station_tables.proofs.Common.{IsJudged, Second, read_as, state, subst}
use Rattle.station_tables.proofs.Attached.{kept_on, store_says_nothing}
use Rattle.station_tables.proofs.Looked.{survives_same}
use Rattle.station_tables.proofs.Migrated.{not_store, undone_same}
use Rattle.station_tables.proofs.attaching.settle.Goals as goal

pub returns-in-Ok-clause-found : goal.returns-in-Ok-clause-found
returns-in-Ok-clause-found g c = λ outside rest at.
    kept_on _ _ _ _ (subst (IsJudged (read_as Second (state g.S.Store c.args.conn).now)) c.in-Ok.is at) (λ s in_ tells. c.go_on.ensures.keeps s in_ tells outside rest)

pub returns-in-Ok-clause-refused : goal.returns-in-Ok-clause-refused
returns-in-Ok-clause-refused g c = λ at. store_says_nothing _ _ c.go_on.ensures.fault

pub returns-in-Err-clause-refused : goal.returns-in-Err-clause-refused
returns-in-Err-clause-refused g c = λ at. c.unfit_fault.ensures.refuses _ (subst (IsJudged (read_as Second (state g.S.Store c.args.conn).now)) c.in-Err.is at)

pub returns-in-Err-clause-unwritten_at_err : goal.returns-in-Err-clause-unwritten_at_err
returns-in-Err-clause-unwritten_at_err g c = survives_same _

pub returns-in-Ok-clause-unmoved : goal.returns-in-Ok-clause-unmoved
returns-in-Ok-clause-unmoved g c = not_store _ _ c.go_on.ensures.fault

pub returns-in-Err-clause-unmoved : goal.returns-in-Err-clause-unmoved
returns-in-Err-clause-unmoved g c = λ other rest. undone_same _ rest
