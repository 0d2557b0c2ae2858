use Rattle.table_load.proofs.Common.{IsUtf8, IsUtf8-from_is_utf8, IsUtf8-string_bytes, ap, is_utf8-from_IsUtf8, subst, sym, ◌∙◌}
use Rattle.sqlite_value.specs.Value.{owned}
use Rattle.table_load.proofs.WholeLemmas.{same_text}
use Rattle.table_load.proofs.cells.words.Goals as goal

pub returns-in-Err-clause-none : goal.returns-in-Err-clause-none
returns-in-Err-clause-none c none low t text is = c.in-Err.ensures.cases.0 (subst IsUtf8 (same_text (sym (ap owned c.in-Ok-Text.field-0-is) ∙ c.in-Ok-Text.ensures.ok.1 ∙ is)) (IsUtf8-from_is_utf8 t text))

pub returns-in_ok-from_str-in-Ok-clause-text : goal.returns-in_ok-from_str-in-Ok-clause-text
returns-in_ok-from_str-in-Ok-clause-text c = is_utf8-from_IsUtf8 _ (IsUtf8-string_bytes c.in_ok-from_str-in-Ok.field-0)
