use Rattle.std.proofs.lemmas.Str.{is_utf8-from_IsUtf8}
use Rattle.row_codec.proofs.columns.text.Goals as goal

pub returns-in-Ok-from_str-clause-valid : goal.returns-in-Ok-from_str-clause-valid
returns-in-Ok-from_str-clause-valid c = is_utf8-from_IsUtf8 _ c.in-Ok.ensures.cases.1
