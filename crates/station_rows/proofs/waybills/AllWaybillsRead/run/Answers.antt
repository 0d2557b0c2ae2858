use Rattle.station_rows.proofs.Common.{refl, state, waybill_meant, waybill_read, waybill_shown}
use Rattle.station_rows.proofs.ReadLemmas.{query_survives, all_told, read_where}
use Rattle.station_rows.proofs.Texts.{all_waybill_is}
use Rattle.station_rows.proofs.WaybillLemmas.{lists_all_waybills, waybills_ascend}
use Rattle.station_rows.proofs.waybills.AllWaybillsRead.run.Goals as goal

pub returns-clause-read : goal.returns-clause-read
returns-clause-read g c = λ clean was.
    read_where _ (state g.S.Store c.args.conn.now) (state g.S.Store c.all_rows.new.conn) _ (waybills_ascend (state g.S.Store c.args.conn.now) was)
    (all_told waybill_meant waybill_shown waybill_read (λ _. refl) g.S.Store c.args.conn.now c.all_rows.new.conn lists_all_waybills _ c.all_rows.ensures.read clean was)

pub returns-clause-survives : goal.returns-clause-survives
returns-clause-survives g c = query_survives all_waybill_is _ _ _ c.all_rows.ensures.survives
