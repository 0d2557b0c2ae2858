use Rattle.state_store.proofs.Common.{arith, book_row, if_movement, ◌∙◌}
use Rattle.state_store.proofs.BookLists.{row_last}
use Rattle.state_store.proofs.Numbered.{movements_are, none_ahead}
use Rattle.state_store.proofs.maps.asked.movements.Goals as goal

pub returns : goal.returns
returns c =
    row_last (if_movement c.args.query.now) c.loop-at.rows.items _ _ c.loop-at.invariant (none_ahead book_row c.args.moves.now c.loop-at.at (omega arith)) ∙ movements_are c.args.query.now c.args.moves.now
