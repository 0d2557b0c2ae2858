use Rattle.desk_client.proofs.Common.{number_takes, rules, string_bytes}
use Rattle.desk_client.proofs.OrderTexts.{same_text, prefix_digits, serial_digits, agents_same}
use Rattle.desk_client.proofs.order.agents_body.Goals as goal

pub returns-clause-text : goal.returns-clause-text
returns-clause-text c =
    same_text c.agents_text.result string_bytes _ _
    (agents_same c.as_str-code.result.now _ c.number-count.result _ c.ascii_text-prefix.result.now _ c.ascii_text-serial.result.now _ c.as_str-code.ensures.value c.number-count.ensures.value
    (prefix_digits c.write-number.result c.ascii_text-prefix.result.now c.args.run.now.first c.write-number.ensures.text c.ascii_text-prefix.ensures)
    (serial_digits c.write-number.result c.ascii_text-serial.result.now c.args.run.now.first c.write-number.ensures.text c.ascii_text-serial.ensures))
    c.agents_text.ensures

pub returns-clause-run : goal.returns-clause-run
returns-clause-run c = ((number_takes c.write-number.result c.args.run.now.first c.write-number.ensures.read_again).0, search rules)
