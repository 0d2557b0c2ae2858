use Rattle.table_state.proofs.Common.{Sizes, ap, book_by, book_row_by, move_meant, moves_for, rules, sym}
use Rattle.table_state.proofs.Passing.{handed_so}
use Rattle.table_state.proofs.state.TableState.hand_book.Goals as goal

pub returns : goal.returns
returns g c =
    handed_so g.S.TableStore.view c.args.self.now _ g.K.Sink.takes move_meant book_row_by (λ t. moves_for _ t.moves) (λ s. book_by c.args.query.now s.cargo)
    (λ s means tells. c.in_ok-asked.ensures _ s means (sym (ap (λ (z : Sizes). z.moves) tells.knows.sizes_are)))
    c.new-telling.result c.hand_out-read.new.sink _ _ c.ended.result c.hand_out-read.ensures (rw c.is_stuck.ensures at c.ended.ensures) c.new-telling.ensures.same (λ name. search rules)
