use Rattle.table_state.proofs.Common.{SFits, [], and_from, flight_key, rules, to_z-of_z, w64, ◌∙◌}
use Rattle.table_state.proofs.Changes.{notes_flight_on}
use Rattle.table_state.proofs.Lifting.{on_answer, writes_so}
use Rattle.table_state.proofs.state.TableState.note_flight.Goals as goal

pub returns : goal.returns
returns g c =
    let day_fits : SFits w64 c.day_number.result = search rules in
    writes_so g.S.TableStore.view _ _ _ _ c.put_flight.ensures.survives (λ before s shown.
    on_answer c.put_flight.result (notes_flight_on _ _ _ _ _ before s shown c.put_flight.ensures.survives [] _ _ c.args.flight.now c.args.outbound.now _ (c.deref.ensures ∙ c.in_ok-name.ensures.text) (to_z-of_z w64 c.day_number.result day_fits ∙ c.day_number.ensures.value) c.in_ok-row.ensures.value
    c.flight_text.ensures.designator (c.outbound_row.ensures.lawful (flight_key c.args.flight.now) (and_from _ _ c.flight_text.ensures.written c.day_number.ensures.in_range))) (c.put_flight.ensures.done _ _))
