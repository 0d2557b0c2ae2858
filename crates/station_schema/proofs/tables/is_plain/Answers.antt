use Rattle.std.proofs.Common.{◌≡◌, [], rules}
use Rattle.station_schema.proofs.TableLemmas.{no_items}
use Rattle.station_schema.proofs.tables.is_plain.Goals as goal

pub returns-clause-on : goal.returns-clause-on
returns-clause-on c last =
    let references : c.args.table.now.references ≡ [] = no_items _ (search rules) in
    let computed : c.args.table.now.computed ≡ [] = no_items _ (search rules) in
    search rules
