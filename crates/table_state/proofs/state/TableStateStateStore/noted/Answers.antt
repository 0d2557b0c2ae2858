use Rattle.table_state.proofs.Common.{NotedFlightRow, ap, map, noted_by, noted_flight_meant, told_so, ◌∙◌}
use Rattle.table_state.proofs.Lifting.{at_rest_of, read_by}
use Rattle.table_state.proofs.Values.{noted_are}
use Rattle.table_state.proofs.state.TableStateStateStore.noted.Goals as goal

pub returns : goal.returns
returns g c = at_rest_of (read_by g.S.TableStore.view c.args.self.now _ _ _ _ c.in_ok-rows.ensures (λ s means tells.
    told_so _ _ c.flights_noted.result
    (λ all are. noted_are _ s means c.in_ok-rows.rows.items all.items
    (are ∙ ap (map (λ (row : NotedFlightRow). noted_by (noted_flight_meant row))) c.deref.ensures.value) tells)
    c.flights_noted.ensures))
