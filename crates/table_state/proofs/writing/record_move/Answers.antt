use Rattle.table_state.proofs.Common.{move_meant, with_move}
use Rattle.table_state.proofs.Lifting.{of_answer}
use Rattle.table_state.proofs.writing.record_move.Goals as goal

pub returns-clause-done : goal.returns-clause-done
returns-clause-done g c = λ before now showing book counts builds known.
    of_answer _ c.post_move.result (λ _ is. record {
      row = move_meant c.in_ok-row.row;
      is = c.in_ok-row.ensures.value;
      fits = c.in_ok-row.ensures.lawful;
      again = c.in_ok-row.ensures.again;
      posted = rw is at (c.post_move.ensures.done before (with_move (move_meant c.in_ok-row.row) now) (c.in_ok-write.ensures.made.done before now showing) book counts builds known);
    })

pub returns-clause-before : goal.returns-clause-before
returns-clause-before g c = λ before now showing book counts builds known.
    c.post_move.ensures.before before (with_move (move_meant c.in_ok-row.row) now) (c.in_ok-write.ensures.made.done before now showing) book counts builds known
