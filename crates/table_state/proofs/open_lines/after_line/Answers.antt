use Rattle.table_state.proofs.Common.{HasOpen, Lines, None, Some, ap, subst, with_line, ◌∙◌}
use Rattle.table_state.proofs.LineWritten.{closed, opened}
use Rattle.table_state.proofs.open_lines.after_line.Goals as goal

pub returns-then-expected : goal.returns-then-expected
returns-then-expected c = λ lines kept.
    c.remove.ensures ∙ ap (λ (open_lines : Lines). with_line open_lines c.args.flight.now c.args.awb.now None) (subst (λ o. HasOpen o lines) c.in_ok-open.was kept)
    ∙ closed lines c.args.flight.now c.args.awb.now c.args.expected.now c.if-expected.true

pub returns-in-Ok : goal.returns-in-Ok
returns-in-Ok c = λ lines kept.
    c.in-Ok.ensures.put ∙ ap (λ (open_lines : Lines). with_line open_lines c.args.flight.now c.args.awb.now (Some c.args.expected.now)) (subst (λ o. HasOpen o lines) c.in_ok-open.was kept)
    ∙ opened lines c.args.flight.now c.args.awb.now c.args.expected.now c.if-expected.false
