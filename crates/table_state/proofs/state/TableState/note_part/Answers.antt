use Rattle.table_state.proofs.Common.{IsTrue, IsUtf8, List, SFits, ap, is_airport, is_utf8, is_utf8-from_IsUtf8, part_fits, pos, rules, subst, to_z-of_z, w64, ℕ, ◌∙◌, ◌≡◌}
use Rattle.imp_fields.specs.Fields.{IsPartNumber}
use Rattle.table_state.proofs.Changes.{notes_part_on}
use Rattle.table_state.proofs.Lifting.{on_answer, writes_so}
use Rattle.table_state.proofs.state.TableState.note_part.Goals as goal

pub returns : goal.returns
returns g c =
    let day_fits : SFits w64 c.day_number-day.result = search rules in
    let number_fits : SFits w64 c.from-number.result = search rules in
    let airport : c.deref-2.result.now ≡ c.args.part.now.airport = search rules in
    let body : c.in-Ok.body.now ≡ c.args.telegram.now = search rules in
    let valid : IsUtf8 c.args.telegram.now = search rules in
    let text : IsTrue (is_utf8 c.args.telegram.now) = is_utf8-from_IsUtf8 _ valid in
    writes_so g.S.TableStore.view _ _ _ _ c.write.ensures.made.survives (λ before s shown.
    on_answer c.write.result (notes_part_on _ _ _ _ _ before s shown c.write.ensures.made.survives c.args.telegram.now _ _ _ _ _ c.args.part.now (c.deref.ensures ∙ c.in_ok-name.ensures.text)
    (to_z-of_z w64 c.day_number-day.result day_fits ∙ c.day_number-day.ensures.value) airport (to_z-of_z w64 c.from-number.result number_fits ∙ c.from-number.ensures ∙ ap pos c.number.ensures.value) body
    c.flight_text.ensures.designator
    (part_fits c.args.part.now c.flight_text.ensures.designator c.day_number-day.ensures.in_range (subst (λ (l : List ℕ). IsTrue (is_airport l)) c.letters.ensures.value c.letters.ensures.letters)
    (subst IsPartNumber c.number.ensures.value c.number.ensures.in_range) c.args.telegram.now text)) (c.write.ensures.made.done _ _))
