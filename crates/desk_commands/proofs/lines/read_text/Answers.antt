use Rattle.std.proofs.Common.{◌∙◌}
use Rattle.desk_commands.proofs.TextLaws.{six_taken, too_many}
use Rattle.desk_commands.proofs.lines.read_text.Goals as goal

pub returns-in-Some : goal.returns-in-Some
returns-in-Some c =
    too_many c.args.text.now c.first_line-word.result.0 c.first_line-word.result.1
    c.next_line-line_0.result.1 c.next_line-line_1.result.1 c.next_line-line_2.result.1 c.next_line-line_3.result.1 c.next_line-line_4.result.1 c.next_line-line_5.result.1
    c.next_line-line_0.result.0 c.next_line-line_1.result.0 c.next_line-line_2.result.0 c.next_line-line_3.result.0 c.next_line-line_4.result.0 c.next_line-line_5.result.0 c.in-Some.field-0
    c.first_line-word.ensures c.next_line-line_0.ensures c.next_line-line_1.ensures c.next_line-line_2.ensures c.next_line-line_3.ensures c.next_line-line_4.ensures c.next_line-line_5.ensures c.in-Some.is

pub returns-in-None : goal.returns-in-None
returns-in-None c =
    c.read_lines.ensures
    ∙ six_taken c.args.text.now c.first_line-word.result.0 c.first_line-word.result.1
    c.next_line-line_0.result.1 c.next_line-line_1.result.1 c.next_line-line_2.result.1 c.next_line-line_3.result.1 c.next_line-line_4.result.1 c.next_line-line_5.result.1
    c.next_line-line_0.result.0 c.next_line-line_1.result.0 c.next_line-line_2.result.0 c.next_line-line_3.result.0 c.next_line-line_4.result.0 c.next_line-line_5.result.0
    c.first_line-word.ensures c.next_line-line_0.ensures c.next_line-line_1.ensures c.next_line-line_2.ensures c.next_line-line_3.ensures c.next_line-line_4.ensures c.next_line-line_5.ensures c.in-None.is
