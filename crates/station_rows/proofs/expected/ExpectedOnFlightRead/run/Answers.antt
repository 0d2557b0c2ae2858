use Rattle.station_rows.proofs.Common.{expected_row, listed_waybill_meant, listed_waybill_read, refl}
use Rattle.station_rows.proofs.ReadLemmas.{query_survives, all_told}
use Rattle.station_rows.proofs.Texts.{list_expected_is}
use Rattle.station_rows.proofs.ExpectedLemmas.{lists_expected}
use Rattle.station_rows.proofs.expected.ExpectedOnFlightRead.run.Goals as goal

pub returns-clause-read : goal.returns-clause-read
returns-clause-read g c =
    all_told listed_waybill_meant expected_row listed_waybill_read (λ _. refl) g.S.Store c.args.conn.now c.all_rows.new.conn (lists_expected c.args.self.flight.now c.args.self.day)
    _ (rw (c.params-to_sql.ensures, c.params-to_sql-2.ensures) at c.all_rows.ensures.read)

pub returns-clause-survives : goal.returns-clause-survives
returns-clause-survives g c = query_survives list_expected_is _ _ _ c.all_rows.ensures.survives
