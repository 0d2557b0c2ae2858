use Rattle.std.proofs.Common.{sym, ◌∙◌}
use Rattle.ffm_text.proofs.ScanLaws.{no_point}
use Rattle.ffm_text.proofs.reading.unloading_point.Goals as goal

pub returns-then-not-may_follow_point : goal.returns-then-not-may_follow_point
returns-then-not-may_follow_point c =
    no_point c.args.line.now c.in_ok-letters.rest.now c.in_ok-letters.ensures.cases.2 (sym c.may_follow_point.ensures ∙ c.if-not-may_follow_point.true)
