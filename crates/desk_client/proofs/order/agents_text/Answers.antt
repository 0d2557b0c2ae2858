use Rattle.desk_client.proofs.Common.{agents_object, arith, refl, string_bytes, view}
use Rattle.desk_client.proofs.OrderTexts.{written}
use Rattle.desk_client.proofs.order.agents_text.Goals as goal

pub returns : goal.returns
returns c =
    written c.to_string.result string_bytes (view c.in_ok-value.value) (agents_object c.args.agent.now c.args.count c.args.prefix.now c.args.serial.now)
    c.in_ok-value.ensures refl (omega arith) c.to_string.ensures.text c.to_string.ensures.reads_back
