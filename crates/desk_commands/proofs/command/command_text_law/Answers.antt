use Rattle.desk_commands.proofs.TextLaws.{one_text}
use Rattle.desk_commands.proofs.command.command_text_law.Goals as goal

pub returns : goal.returns
returns c a b h k same = one_text a b h k same
