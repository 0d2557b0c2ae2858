use Rattle.table_state.proofs.Common.{at_rest, refl}
use Rattle.table_state.proofs.Lifting.{keeps_number}
use Rattle.table_state.proofs.state.TableState.find_spans.Goals as goal

pub returns-then-not-self-clause-rests : goal.returns-then-not-self-clause-rests
returns-then-not-self-clause-rests g c = λ s shown. keeps_number _ _ _ _ (at_rest s) shown _ refl (λ sound. record {
  boarded = (shown sound).kept.boarded;
  known = (shown sound).kept.known;
  waybills = (shown sound).kept.waybills;
  open_lines = (shown sound).kept.open_lines;
  spans = record { flights = (shown sound).kept.spans.flights; statuses = (shown sound).kept.spans.statuses };
})
