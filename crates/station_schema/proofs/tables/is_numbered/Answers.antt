use Rattle.std.proofs.Common.{rules}
use Rattle.station_schema.proofs.TableLemmas.{no_items}
use Rattle.station_schema.proofs.tables.is_numbered.Goals as goal

pub returns-clause-on : goal.returns-clause-on
returns-clause-on c last = (search rules, search rules, no_items _ (search rules), no_items _ (search rules))
