use Rattle.station_tables.proofs.Lives.{after_migration}
use Rattle.station_tables.proofs.station.migration_law.Goals as goal

pub returns : goal.returns
returns c = after_migration
