use Rattle.http_desk.specs.Reply.{waybill_data}
use Rattle.cli_run.proofs.look.tell_waybill.Goals as goal

pub returns-in-Some-clause-told : goal.returns-in-Some-clause-told
returns-in-Some-clause-told g c =
    rw c.in-Some.is (c.tell_object.ensures.told (waybill_data c.args.number.now c.in-Some.known) c.waybill_text.ensures)
