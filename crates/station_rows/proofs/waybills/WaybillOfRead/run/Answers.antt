use Rattle.station_rows.proofs.Common.{refl, waybill_meant, waybill_read, waybill_shown}
use Rattle.station_rows.proofs.ReadLemmas.{query_survives, first_told}
use Rattle.station_rows.proofs.Texts.{get_waybill_is}
use Rattle.station_rows.proofs.WaybillLemmas.{gets_waybill}
use Rattle.station_rows.proofs.waybills.WaybillOfRead.run.Goals as goal

pub returns-clause-read : goal.returns-clause-read
returns-clause-read g c =
    first_told waybill_meant waybill_shown waybill_read (λ _. refl) g.S.Store c.args.conn.now c.first_row.new.conn _ (gets_waybill c.args.self.awb)
    _ (rw c.params-to_sql.ensures at c.first_row.ensures.read)

pub returns-clause-survives : goal.returns-clause-survives
returns-clause-survives g c = query_survives get_waybill_is _ _ _ c.first_row.ensures.survives
