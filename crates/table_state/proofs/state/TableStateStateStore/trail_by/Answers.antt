use Rattle.table_state.proofs.Common.{Sizes, ap, lines_for, rules, sym, trail_by, trail_meant, trail_row_by}
use Rattle.table_state.proofs.Passing.{handed_so}
use Rattle.table_state.proofs.state.TableStateStateStore.trail_by.Goals as goal

pub returns : goal.returns
returns g c =
    handed_so g.S.TableStore.view c.args.self.now _ g.K.Sink.takes trail_meant trail_row_by (λ t. lines_for _ t.trail) (λ s. trail_by c.args.query.now s.cargo)
    (λ s means tells. c.line_query-asked.ensures _ s means (sym (ap (λ (z : Sizes). z.lines) tells.knows.sizes_are)))
    c.new-telling.result c.hand_out-read.new.sink _ _ c.ended.result c.hand_out-read.ensures (rw c.is_stuck.ensures at c.ended.ensures) c.new-telling.ensures.same (λ name. search rules)
