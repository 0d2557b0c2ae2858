use Rattle.http_desk.proofs.Common.{ap, number_of, refl, result_ok, ◌∙◌}
use Rattle.http_desk.proofs.Wanting.{waybill_wanted, no_waybill}
use Rattle.http_desk.proofs.wanted.waybill_at.Goals as goal

pub returns-in-Some : goal.returns-in-Some
returns-in-Some c = waybill_wanted c.args.name.now c.in-Some.number (c.in-Some.ensures ∙ ap (λ text. result_ok (number_of text)) c.as_bytes.ensures.value)

pub returns-in-None : goal.returns-in-None
returns-in-None c = no_waybill c.args.name.now _ refl (c.in-None.ensures ∙ ap (λ text. result_ok (number_of text)) c.as_bytes.ensures.value)
