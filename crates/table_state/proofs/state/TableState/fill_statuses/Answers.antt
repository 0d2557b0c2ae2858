use Rattle.table_state.proofs.Common.{at_rest, refl}
use Rattle.table_state.proofs.Lifting.{keeps_number}
use Rattle.table_state.proofs.StatusParts.{filled}
use Rattle.station_core.specs.Readers.{messages_after}
use Rattle.table_state.proofs.state.TableState.fill_statuses.Goals as goal

pub returns-in-Ok-clause-rests : goal.returns-in-Ok-clause-rests
returns-in-Ok-clause-rests g c = λ s shown.
    let now = c.messages_by.ensures.rests s shown in
    keeps_number _ _ _ _ (at_rest s) now _ refl (λ sound. record {
      boarded = (now sound).kept.boarded;
      known = (now sound).kept.known;
      waybills = (now sound).kept.waybills;
      open_lines = (now sound).kept.open_lines;
      spans = record {
        flights = (now sound).kept.spans.flights;
        statuses = (filled (messages_after 0 s.cargo) c.new-filling.result c.messages_by.new.sink (c.in-Ok.ensures.rows s shown sound)).1;
      };
    })
