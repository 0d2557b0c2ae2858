use Rattle.table_state.proofs.Common.{in_tables, survives_then}
use Rattle.table_state.proofs.state.TableState.hand_flight.Goals as goal

pub returns : goal.returns
returns g c = record {
  rows = λ s shown sound. c.hand_span.ensures.rows s (c.find_spans.ensures.rests s shown) sound;
  took = c.hand_span.ensures.took;
  rests = λ s shown. c.hand_span.ensures.rests s (c.find_spans.ensures.rests s shown);
  survives = survives_then (in_tables g.S.TableStore.view) _ _ _ c.find_spans.ensures.survives c.hand_span.ensures.survives;
}
