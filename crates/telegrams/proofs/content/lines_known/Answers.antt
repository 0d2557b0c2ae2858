use Rattle.std.proofs.Common.{All, subst}
use Rattle.telegrams.proofs.Common.{All-more, take_all}
use Rattle.telegrams.proofs.KnownLines.{IsLine}
use Rattle.telegrams.proofs.content.lines_known.Goals as goal

pub loop-line-preserved : goal.loop-line-preserved
loop-line-preserved c =
    All-more IsLine c.args.lines.now c.loop-line.line-index c.line-item.result c.loop-line-test.true c.loop-line.invariant
    (subst IsLine c.line-item.is c.line_known.ensures)

pub returns : goal.returns
returns c = subst (All IsLine) (take_all c.loop-line.line-index c.args.lines.now c.loop-line-test.false) c.loop-line.invariant
