use Rattle.table_audits.proofs.KeptKeyLaws.{key_taken, key_refused}
use Rattle.table_audits.proofs.kept_key.KeptKeysRowFoldKeptKeyEntry.take.Goals as goal

pub returns-then-is_lawful : goal.returns-then-is_lawful
returns-then-is_lawful c = λ rows taken. key_taken rows c.args.row c.args.self.now.are_lawful taken (c.is_lawful.ensures.0 c.if-is_lawful.true)

pub returns : goal.returns
returns c = λ rows taken. key_refused rows c.args.row c.is_lawful.result c.if-is_lawful.false c.is_lawful.ensures.1
