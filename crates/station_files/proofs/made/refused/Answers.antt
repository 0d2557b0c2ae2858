use Rattle.station_files.proofs.Common.{false, rules, ◌≡◌}
use Rattle.station_files.specs.Ways.{is_listed}
use Rattle.station_files.proofs.Ways.{clean_left, refused_left}
use Rattle.station_files.proofs.made.refused.Goals as goal

pub returns-else-listed-clause-again : goal.returns-else-listed-clause-again
returns-else-listed-clause-again g c files objects kept =
    let none : is_listed c.args.left ≡ false = search rules in
    refused_left files objects c.args.left c.into_files-files.result none c.into_files-files.ensures kept

pub returns-else-listed-clause-clean : goal.returns-else-listed-clause-clean
returns-else-listed-clause-clean g c clean =
    let none : is_listed c.args.left ≡ false = search rules in
    clean_left c.into_files-files.result c.args.left c.into_files-files.result none c.into_files-files.ensures clean
