use Rattle.cli_run.proofs.Common.{fields_of, sym}
use Rattle.cli_run.proofs.RowFields.{there}
use Rattle.cli_run.proofs.rows.field.Goals as goal

pub unreachable-requires : goal.unreachable-requires
unreachable-requires c = there (fields_of c.args.row.now) c.args.place c.requires (sym c.in-None.ensures.value)
