use Rattle.std.proofs.Common.{◌∙◌}
use Rattle.desk_commands.proofs.Fields.{twelve_read}
use Rattle.desk_commands.proofs.field_value.read_awb.Goals as goal

pub returns : goal.returns
returns c = c.read_twelve.ensures ∙ twelve_read _ c.try_from.result c.args.text.now c.in_ok-bytes.bytes c.in_ok-bytes.ensures.value c.try_from.ensures.1
