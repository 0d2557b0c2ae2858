use Rattle.table_audits.proofs.Taken.{stays_unsound}
use Rattle.table_audits.proofs.lookups.NumberedRows.add.Goals as goal

pub returns-in_default : goal.returns-in_default
returns-in_default c = λ rows was. stays_unsound rows (c.args.number, c.args.is_lawful) c.args.self.now.count c.in_default.is was
