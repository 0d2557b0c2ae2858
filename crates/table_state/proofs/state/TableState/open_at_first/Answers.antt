use Rattle.table_state.proofs.Common.{in_tables, survives_then}
use Rattle.table_state.proofs.state.TableState.open_at_first.Goals as goal

pub returns : goal.returns
returns g c = record {
  value = λ s shown sound. c.in_ok-open.ensures.value s shown (c.fill_others.ensures.survives.sound sound);
  rests = λ s shown. c.fill_others.ensures.rests s (c.in_ok-open.ensures.rests s shown);
  survives = survives_then (in_tables g.S.TableStore.view) _ _ _ c.in_ok-open.ensures.survives c.fill_others.ensures.survives;
}
