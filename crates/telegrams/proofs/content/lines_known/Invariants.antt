use Rattle.std.proofs.Common.{All, take}
use Rattle.telegrams.proofs.KnownLines.{IsLine}
use Rattle.telegrams.proofs.content.lines_known.Given as goal

abbrev pub invariant-loop-line : goal.invariant-loop-line
invariant-loop-line l = All IsLine (take l.line-index l.lines)
