use Rattle.http_desk.proofs.Common.{string_bytes, told, ◌++◌, ◌∙◌}
use Rattle.http_desk.proofs.WholeWaybill.{whole}
use Rattle.http_desk.proofs.answer.waybill_text.Goals as goal

pub returns : goal.returns
returns c =
    told string_bytes c.format.result _ _
    ((λ i. c.in_ok-first.ensures i ++ (c.in_ok-second.ensures i ++ (c.in_ok-third.ensures i ++ c.in_ok-last.ensures i))) ∙ whole c.args.number.now c.args.known.now)
    c.format.ensures.ok
