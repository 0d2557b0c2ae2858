use Rattle.std.proofs.Common.{rules, filter, ◌∙◌, SFits, w64}
use Rattle.table_state.proofs.Common.{On, book_by, book_row_by, is_flown_within, move_meant, to_z-of_z}
use Rattle.table_state.proofs.Passing.{handed_so}
use Rattle.table_state.proofs.Spans.{within_span}
use Rattle.table_state.proofs.state.TableState.hand_span.Goals as goal

pub returns : goal.returns
returns g c =
    let day_fits : SFits w64 c.day_number.result = search rules in
    let after_fits : SFits w64 c.from.result = search rules in
    let last_fits : SFits w64 c.from-2.result = search rules in
    handed_so g.S.TableStore.view c.args.self.now _ g.K.Sink.takes move_meant book_row_by (λ t. filter (is_flown_within _ _ _ _) t.moves) (λ s. book_by (On c.args.flight.now) s.cargo)
    (λ s means tells. within_span c.args.flight.now c.flight_text.ensures.designator c.in-Some.span _ c.in-Some.ensures _ s means tells.kept.spans.flights _ _ _ _
    (c.deref.ensures ∙ c.in_ok-name.ensures.text) (to_z-of_z w64 c.day_number.result day_fits ∙ c.day_number.ensures.value) (to_z-of_z w64 c.from.result after_fits ∙ c.from.ensures) (to_z-of_z w64 c.from-2.result last_fits ∙ c.from-2.ensures))
    c.new-telling.result c.hand_out-read.new.sink _ _ c.ended.result c.hand_out-read.ensures (rw c.is_stuck.ensures at c.ended.ensures) c.new-telling.ensures.same (λ name. search rules)
