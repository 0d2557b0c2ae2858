use Rattle.table_state.proofs.Common.{at_rest, book_rows, refl}
use Rattle.table_state.proofs.Lifting.{keeps_number}
use Rattle.table_state.proofs.Spans.{filled}
use Rattle.table_state.proofs.state.TableState.fill_spans.Goals as goal

pub returns-in-Ok-clause-rests : goal.returns-in-Ok-clause-rests
returns-in-Ok-clause-rests g c = λ s shown.
    let now = c.hand_book.ensures.rests s shown in
    keeps_number _ _ _ _ (at_rest s) now _ refl (λ sound. record {
      boarded = (now sound).kept.boarded;
      known = (now sound).kept.known;
      waybills = (now sound).kept.waybills;
      open_lines = (now sound).kept.open_lines;
      spans = record {
        flights = (filled (book_rows s.cargo) c.new-filling.result c.hand_book.new.sink (c.in-Ok.ensures.rows s shown sound)).1;
        statuses = (now sound).kept.spans.statuses;
      };
    })
