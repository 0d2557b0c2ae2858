use Rattle.table_state.proofs.Common.{IsUtf8, SFits, is_utf8-from_IsUtf8, rules, to_z-of_z, w64, ◌<◌, ◌∙◌}
use Rattle.table_state.proofs.Changes.{keeps_key_on, mark_fits}
use Rattle.table_state.proofs.Lifting.{of_answer}
use Rattle.table_state.proofs.state.TableStateStateStore.keep_key.Goals as goal

pub returns-clause-done : goal.returns-clause-done
returns-clause-done g c = λ before s shown asked.
    let fits : SFits w64 c.from.result = search rules in
    let small : c.args.count < 4_294_967_296 = search rules in
    let valid : IsUtf8 c.args.request.now = search rules in
    let count = to_z-of_z w64 c.from.result fits ∙ c.from.ensures in
    of_answer _ c.write.result (λ _ is. keeps_key_on _ _ _ _ _ before s shown c.write.ensures.made.survives _ c.args.key.now (record { request = c.args.request.now; count = c.args.count }) _ c.as_str.ensures.value
    (λ i. record { command = c.args.request.now; count = count i }) c.as_str.ensures.valid (is_utf8-from_IsUtf8 _ valid) (mark_fits c.args.count small) asked (rw is at c.write.ensures.ok))
