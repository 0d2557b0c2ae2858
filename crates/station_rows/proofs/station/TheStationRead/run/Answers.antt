use Rattle.station_rows.proofs.Common.{refl, station_meant, station_read}
use Rattle.station_rows.proofs.ShownRows.{station_shown}
use Rattle.station_rows.proofs.ReadLemmas.{query_survives, first_told}
use Rattle.station_rows.proofs.Texts.{get_station_is}
use Rattle.station_rows.proofs.StationLemmas.{gets_station}
use Rattle.station_rows.proofs.station.TheStationRead.run.Goals as goal

pub returns-clause-read : goal.returns-clause-read
returns-clause-read g c =
    first_told station_meant station_shown station_read (λ _. refl) g.S.Store c.args.conn.now c.first_row.new.conn _ gets_station _ c.first_row.ensures.read

pub returns-clause-survives : goal.returns-clause-survives
returns-clause-survives g c = query_survives get_station_is _ _ _ c.first_row.ensures.survives
