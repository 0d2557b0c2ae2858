use Rattle.std.proofs.Common.{SFits, rules, w64}
use Rattle.table_state.proofs.Common.{ListedWaybillRow, ap, expectation_by, listed_waybill_meant, map, to_z-of_z, told_so, ◌∙◌}
use Rattle.table_state.proofs.Lifting.{at_rest_of, read_by}
use Rattle.table_state.proofs.Values.{expectations_on_are}
use Rattle.table_state.proofs.state.TableState.lines_on.Goals as goal

pub returns : goal.returns
returns g c =
    let day_fits : SFits w64 c.day_number.result = search rules in
    at_rest_of (read_by g.S.TableStore.view c.args.self.now _ _ _ _ c.in_ok-rows.ensures (λ s means tells.
    told_so _ _ c.waybills_expected.result
    (λ all are. expectations_on_are _ s means c.args.flight.now _ _ (c.deref.ensures ∙ c.in_ok-name.ensures.text) (to_z-of_z w64 c.day_number.result day_fits ∙ c.day_number.ensures.value) c.flight_text.ensures.designator
    c.in_ok-rows.rows.items all.items
    (are ∙ ap (map (λ (row : ListedWaybillRow). expectation_by (listed_waybill_meant row))) c.deref-2.ensures.value) tells)
    c.waybills_expected.ensures))
