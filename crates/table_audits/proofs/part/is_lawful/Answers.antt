use Rattle.std.proofs.Common.{rules}
use Rattle.table_audits.proofs.Texts.{part_is}
use Rattle.table_audits.proofs.part.is_lawful.Goals as goal

pub returns : goal.returns
returns c = rw (part_is c.args.row.now) (search rules)
