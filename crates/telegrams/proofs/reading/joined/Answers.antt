use Rattle.telegrams.proofs.PlainLines.{joined_next}
use Rattle.telegrams.proofs.reading.joined.Goals as goal

pub loop-line-preserved : goal.loop-line-preserved
loop-line-preserved c =
    joined_next c.args.lines.now c.in-Some.parts.1.now c.in-Some.parts.0.now c.loop-line.line-index _ c.loop-line.text.items c.put_next.new.text.items
    c.in-Some.ensures.cases.0 c.loop-line-test.true c.loop-line.invariant c.in_ok-put_next.ensures
