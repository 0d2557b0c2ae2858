use Rattle.table_state.proofs.Common.{ListedWaybillRow, ap, expectation_by, listed_waybill_meant, map, told_so, ◌∙◌}
use Rattle.table_state.proofs.Lifting.{at_rest_of, read_by}
use Rattle.table_state.proofs.Values.{expectations_are}
use Rattle.table_state.proofs.state.TableState.all_lines.Goals as goal

pub returns : goal.returns
returns g c = at_rest_of (read_by g.S.TableStore.view c.args.self.now _ _ _ _ c.in_ok-rows.ensures (λ s means tells.
    told_so _ _ c.waybills_expected.result
    (λ all are. expectations_are _ s means c.in_ok-rows.rows.items all.items
    (are ∙ ap (map (λ (row : ListedWaybillRow). expectation_by (listed_waybill_meant row))) c.deref.ensures.value) tells)
    c.waybills_expected.ensures))
