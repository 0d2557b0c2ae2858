use Rattle.std.proofs.Common.{[], refl}
use Rattle.table_state.proofs.Changes.{declares_on}
use Rattle.table_state.proofs.Lifting.{writes_so}
use Rattle.table_state.proofs.state.TableState.declare.Goals as goal

pub returns : goal.returns
returns g c =
    writes_so g.S.TableStore.view _ _ _ _ c.in_ok-put_waybill.ensures.survives (λ before s shown.
    declares_on _ _ _ _ _ before s shown c.in_ok-put_waybill.ensures.survives [] _ c.args.awb.now c.args.declared.now _ c.in_ok-row.ensures.value c.waybill_row.ensures.lawful _ refl refl refl refl refl
    (λ book declared. c.declare.ensures book declared c.args.declared.now) (c.in_ok-put_waybill.ensures.done _ _))
