use Rattle.ffm_text.proofs.Common.{ap, option_copied, sym, ◌∙◌}
use Rattle.ffm_text.proofs.LastLine.{last_token, ends_so, ends_or}
use Rattle.ffm_text.proofs.reading.has_last_line.Goals as goal

pub returns-then-eq : goal.returns-then-eq
returns-then-eq c =
    ends_so c.in-Some.line.now.text.now c.as_slice.result.now c.eq.result c.as_slice.ensures c.eq.ensures c.if-eq.true
    ∙ sym (last_token c.args.lines.now c.in-Some.line.now (sym c.last.ensures.value ∙ ap option_copied c.in-Some.is))

pub returns-else-eq : goal.returns-else-eq
returns-else-eq c =
    ends_or c.in-Some.line.now.text.now c.as_slice.result.now c.as_slice-else-eq.result.now c.eq.result c.eq-else-eq.result c.as_slice.ensures c.as_slice-else-eq.ensures c.eq.ensures c.eq-else-eq.ensures c.if-eq.false
    ∙ sym (last_token c.args.lines.now c.in-Some.line.now (sym c.last.ensures.value ∙ ap option_copied c.in-Some.is))
