use Rattle.input_reasons.proofs.Common.{[], ap, cons_option, passed_object, sym, ◌++◌, ◌∙◌}
use Rattle.input_reasons.proofs.Texts.{filter_more}
use Rattle.input_reasons.proofs.as_object.passed_list.Goals as goal

pub loop-line-preserved : goal.loop-line-preserved
loop-line-preserved c =
    let line = c.line-item.result in
    let lines = c.args.lines.now in
    let i = c.loop-line.line-index in
    c.in_ok-put_object.ensures ∙ (λ k. c.loop-line.invariant k ++ cons_option ((c.in_ok-passed_object.ensures ∙ ap passed_object c.line-item.is) k) [])
    ∙ sym (filter_more passed_object lines i line c.loop-line-test.true)
