use Rattle.cli_run.proofs.Common.{fields_of, sym, ◌∙◌}
use Rattle.cli_run.proofs.RowFields.{six}
use Rattle.cli_run.proofs.rows.read_row.Goals as goal

pub returns : goal.returns
returns c = c.asked.ensures ∙ six (fields_of c.args.row.now) _ _ _ _ _ _ (sym c.len.ensures ∙ c.if-len-ne6.false) c.field.ensures c.field-2.ensures c.field-3.ensures c.field-4.ensures c.field-5.ensures c.field-6.ensures
