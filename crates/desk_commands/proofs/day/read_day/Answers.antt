use Rattle.std.proofs.Common.{◌∙◌}
use Rattle.desk_commands.proofs.Days.{day_read}
use Rattle.desk_commands.proofs.day.read_day.Goals as goal

pub returns : goal.returns
returns c = c.if_written.ensures ∙ day_read c.args.text.now c.in_ok-date.date c.in_ok-date.year c.in_ok-day_in_year.field-0 c.in_ok-date.ensures.date c.in_ok-day_in_year.ensures
