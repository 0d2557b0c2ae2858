use Rattle.table_audits.proofs.Typed.{station_held_whole}
use Rattle.table_audits.proofs.laws.lawful_is_station.Goals as goal

pub returns : goal.returns
returns c = station_held_whole
