use Rattle.std.proofs.Common.{◌∙◌, sym}
use Rattle.input_reasons.proofs.Front.{front_next}
use Rattle.input_reasons.proofs.dropped.front_lines.Goals as goal

pub loop-line-preserved : goal.loop-line-preserved
loop-line-preserved c =
    front_next c.loop-line.front.items c.push.new.self.items c.without_end-text.result c.args.bytes.now c.loop-line.rest.now c.in-Some.line.now c.in-Some.behind.now
    c.in_ok-push.ensures.items c.without_end-text.ensures c.in-Some.ensures.some (sym c.is_message_line.ensures ∙ c.if-is_message_line.false) c.loop-line.invariant
