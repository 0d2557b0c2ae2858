use Rattle.std.proofs.Common.{arith}
use Rattle.cli_run.proofs.acts.line_value.Goals as goal

pub returns-then-line-gt-MOST_LINE-clause-none : goal.returns-then-line-gt-MOST_LINE-clause-none
returns-then-line-gt-MOST_LINE-clause-none c = λ none d written. omega (arith, c.if-line-gt-MOST_LINE.true, written.0)

pub returns-in-Ok-clause-some : goal.returns-in-Ok-clause-some
returns-in-Ok-clause-some c = (omega (arith, c.if-line-gt-MOST_LINE.false), c.in-Ok.ensures.ok.0, c.in-Ok.ensures.ok.1)
