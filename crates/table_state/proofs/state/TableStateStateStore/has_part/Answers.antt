use Rattle.table_state.proofs.Common.{SFits, ap, pos, rules, string_bytes, to_z-of_z, w64, ◌∙◌, ◌≡◌}
use Rattle.table_state.proofs.Lifting.{read_by}
use Rattle.table_state.proofs.Values.{part_is}
use Rattle.table_state.proofs.state.TableStateStateStore.has_part.Goals as goal

pub returns : goal.returns
returns g c =
    let day_fits : SFits w64 c.day_number-day.result = search rules in
    let seq_fits : SFits w64 c.from-seq.result = search rules in
    let airport : c.in-Ok.airport.now ≡ c.args.part.now.airport = search rules in
    read_by g.S.TableStore.view c.args.self.now _ _ _ _ c.in_ok-body.ensures (λ s means tells.
    part_is _ s means string_bytes c.args.part.now _ _ _ _ c.in_ok-body.body c.is_some.result
    (c.deref.ensures ∙ c.in_ok-flight.ensures.text) (to_z-of_z w64 c.day_number-day.result day_fits ∙ c.day_number-day.ensures.value) airport
    (to_z-of_z w64 c.from-seq.result seq_fits ∙ c.from-seq.ensures ∙ ap pos c.number.ensures.value) c.flight_text.ensures.designator c.is_some.ensures tells)
