use Rattle.http_desk.proofs.Common.{IsToldAs, subst, sym, waybill_data, waybill_reply}
use Rattle.http_desk.proofs.asking.waybill_told.Goals as goal

pub returns-in-Some : goal.returns-in-Some
returns-in-Some c =
    subst (λ o. IsToldAs (waybill_reply c.args.number.now o) c.json_told.result) (sym c.in-Some.is) (c.json_told.ensures (waybill_data c.args.number.now c.in-Some.known) c.waybill_text.ensures)
