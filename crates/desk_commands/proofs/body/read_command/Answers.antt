use Rattle.desk_commands.proofs.Common.{Command, None, Ok, Option, Some, ap, sym, view, ◌∙◌, ◌≡◌}
use Rattle.desk_commands.proofs.BodyLaws.{body_made, body_again}
use Rattle.desk_commands.proofs.Steps.{some_is}
use Rattle.desk_commands.proofs.body.read_command.Goals as goal

pub returns-in-Some-clause-ok : goal.returns-in-Some-clause-ok
returns-in-Some-clause-ok c = body_made c.args.verb (view c.args.value.now) c.in-Some.command (sym c.in-Some.ensures)

pub returns-in-None-clause-bad : goal.returns-in-None-clause-bad
returns-in-None-clause-bad c command h =
    let bad : ◌≡◌ {A = Option Command} None (Some command) = c.in-None.ensures ∙ body_again c.args.verb (view c.args.value.now) command h in
    cc bad

pub returns-in-Some-clause-only : goal.returns-in-Some-clause-only
returns-in-Some-clause-only c command h =
    ap (λ (x : Command). Ok x) (some_is c.in-Some.command command (c.in-Some.ensures ∙ body_again c.args.verb (view c.args.value.now) command h))

pub returns-in-None-clause-only : goal.returns-in-None-clause-only
returns-in-None-clause-only c command h = absurd (returns-in-None-clause-bad c command h)
