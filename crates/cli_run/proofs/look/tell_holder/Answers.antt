use Rattle.http_desk.specs.Reply.{holder_data}
use Rattle.cli_run.proofs.look.tell_holder.Goals as goal

pub returns-in-Some-clause-told : goal.returns-in-Some-clause-told
returns-in-Some-clause-told g c =
    rw c.in-Some.is (c.tell_object.ensures.told (holder_data c.args.number.now c.in-Some.holder) c.holder_text.ensures)
