use Rattle.table_audits.proofs.Declared.{each_lawful, same_tables, old_same_tables}
use Rattle.table_audits.proofs.laws.station_is_typed.Goals as goal

pub returns : goal.returns
returns c = record { lawful = each_lawful; typed = same_tables; old = old_same_tables }
