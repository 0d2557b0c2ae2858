use Rattle.table_audits.proofs.LawfulTables.{lawful_each}
use Rattle.table_audits.proofs.laws.lawful_tables_mean.Goals as goal

-- src/law.rt:9:1
pub returns : goal.returns
returns c = lawful_each
