use Rattle.table_state.proofs.Common.{SFits, [], and_from, expected_key, refl, rules, to_z-of_z, w64, ◌∙◌}
use Rattle.table_state.proofs.Changes.{expects_on}
use Rattle.table_state.proofs.Lifting.{writes_so}
use Rattle.table_state.proofs.state.TableState.expect.Goals as goal

pub returns : goal.returns
returns g c =
    let day_fits : SFits w64 c.day_number.result = search rules in
    let awb_fits : SFits w64 c.awb_key.result = search rules in
    writes_so g.S.TableStore.view _ _ _ _ c.in_ok-put_expected.ensures.survives (λ before s shown.
    expects_on _ _ _ _ _ before s shown c.in_ok-put_expected.ensures.survives [] _ _ _ c.args.flight.now c.args.awb.now c.args.expected.now _ (c.deref.ensures ∙ c.in_ok-name.ensures.text) (to_z-of_z w64 c.day_number.result day_fits ∙ c.day_number.ensures.value) (to_z-of_z w64 c.awb_key.result awb_fits ∙ c.awb_key.ensures.value) c.expected_row-row.ensures.value
    c.flight_text.ensures.designator (c.expected_row-row.ensures.lawful (expected_key c.args.flight.now c.args.awb.now) (and_from _ _ (and_from _ _ c.flight_text.ensures.written c.day_number.ensures.in_range) c.awb_key.ensures.in_range)) _ refl refl refl refl refl c.post.ensures (c.in_ok-put_expected.ensures.done _ _))
