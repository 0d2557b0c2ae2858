-- Tables that are lawful one by one are those that mean a lawful state.
use Rattle.table_audits.proofs.Common.{IsLawfulTable, IsReadable, TableName, Tables, meaning_of, ◌↔◌}
use Rattle.station_core.specs.Step.{IsLawfulState}
use Rattle.table_audits.specs.declared.name.TableName.TheVariants as table

table_by_table : (t : Tables) → IsReadable t × IsLawfulState (meaning_of t) → (name : TableName) → IsLawfulTable name t
table_by_table t both table.Station = assumption
table_by_table t both _ = assumption

pub lawful_each : (t : Tables) → ((name : TableName) → IsLawfulTable name t) ↔ (IsReadable t × IsLawfulState (meaning_of t))
lawful_each t = (
  λ each. assumption (
    each table.Station,
    each table.Waybill,
    each table.Waybill2,
    each table.Stock,
    each table.Flight,
    each table.Moves,
    each table.Expected,
    each table.Part,
    each table.Trail,
    each table.Outbox,
    each table.KeptKey,
    each table.KeptText,
    each table.Counts,
    each table.Build,
  ),
  table_by_table t,
)
