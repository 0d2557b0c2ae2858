use Rattle.std.proofs.Common.{rules, ap, sym, Some, option_map, ◌∙◌, SFits, w64}
use Rattle.table_state.proofs.Common.{ExpectedRow, expected_by, expected_meant, to_z-of_z}
use Rattle.table_state.proofs.Lifting.{read_by}
use Rattle.table_state.proofs.Values.{expected_is}
use Rattle.table_state.proofs.state.TableStateStateStore.expected.Goals as goal

pub returns-in-None : goal.returns-in-None
returns-in-None g c =
    let day_fits : SFits w64 c.day_number.result = search rules in
    let awb_fits : SFits w64 c.awb_key.result = search rules in
    read_by g.S.TableStore.view c.args.self.now _ _ _ _ c.in_ok-read.ensures (λ s means tells.
    ap (option_map (λ (r : ExpectedRow). expected_by (expected_meant r))) (sym c.in-None.is)
    ∙ expected_is _ s means c.args.flight.now c.args.awb.now _ _ _ c.in_ok-read.field-0 (c.deref.ensures ∙ c.in_ok-text.ensures.text) (to_z-of_z w64 c.day_number.result day_fits ∙ c.day_number.ensures.value) (to_z-of_z w64 c.awb_key.result awb_fits ∙ c.awb_key.ensures.value) c.flight_text.ensures.designator tells)

pub returns : goal.returns
returns g c =
    let day_fits : SFits w64 c.day_number.result = search rules in
    let awb_fits : SFits w64 c.awb_key.result = search rules in
    read_by g.S.TableStore.view c.args.self.now _ _ _ _ c.in_ok-read.ensures (λ s means tells.
    ap Some (rw c.in_ok-ok_or-in-Some.ensures.ok_part at c.expected_by.ensures.value) ∙ ap (option_map (λ (r : ExpectedRow). expected_by (expected_meant r))) (sym c.in-Some.is)
    ∙ expected_is _ s means c.args.flight.now c.args.awb.now _ _ _ c.in_ok-read.field-0 (c.deref.ensures ∙ c.in_ok-text.ensures.text) (to_z-of_z w64 c.day_number.result day_fits ∙ c.day_number.ensures.value) (to_z-of_z w64 c.awb_key.result awb_fits ∙ c.awb_key.ensures.value) c.flight_text.ensures.designator tells)
