use Rattle.table_state.proofs.Common.{IsUtf8, SFits, is_utf8-from_IsUtf8, rules, to_z-of_z, w64, ◌<◌, ◌∙◌, ◌≡◌}
use Rattle.table_state.proofs.Changes.{keeps_text_on, mark_fits}
use Rattle.table_state.proofs.Lifting.{on_answer, writes_so}
use Rattle.table_state.proofs.state.TableStateStateStore.keep_text.Goals as goal

pub returns : goal.returns
returns g c =
    let fits : SFits w64 c.from.result = search rules in
    let small : c.args.count < 4_294_967_296 = search rules in
    let name : c.in-Ok.text.now ≡ c.args.text.now = search rules in
    let valid : IsUtf8 c.args.text.now = search rules in
    writes_so g.S.TableStore.view _ _ _ _ c.write.ensures.made.survives (λ before s shown.
    on_answer c.write.result (keeps_text_on _ _ _ _ _ before s shown c.write.ensures.made.survives _ c.args.text.now _ c.args.count name (to_z-of_z w64 c.from.result fits ∙ c.from.ensures) (is_utf8-from_IsUtf8 _ valid) (mark_fits c.args.count small)) (c.write.ensures.made.done _ _))
