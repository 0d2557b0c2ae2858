use Rattle.table_state.proofs.Common.{in_tables, survives_then}
use Rattle.table_state.proofs.state.TableState.fill_others.Goals as goal

pub returns-clause-rests : goal.returns-clause-rests
returns-clause-rests g c = λ s shown. c.list_announced-announced.ensures.rests s (c.fill_statuses.ensures.rests s (c.fill_spans.ensures.rests s shown))

pub returns-clause-survives : goal.returns-clause-survives
returns-clause-survives g c =
    survives_then (in_tables g.S.TableStore.view) _ _ _ (survives_then (in_tables g.S.TableStore.view) _ _ _ c.fill_spans.ensures.survives c.fill_statuses.ensures.survives) c.list_announced-announced.ensures.survives
