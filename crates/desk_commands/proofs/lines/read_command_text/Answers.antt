use Rattle.desk_commands.proofs.TextLaws.{said, only_said}
use Rattle.desk_commands.proofs.lines.read_command_text.Goals as goal

pub returns-clause-some : goal.returns-clause-some
returns-clause-some c = said c.read_text.result c.args.text.now c.read_text.ensures

pub returns-clause-only : goal.returns-clause-only
returns-clause-only c command h same = only_said c.read_text.result c.args.text.now command c.read_text.ensures h same
