use Rattle.desk_client.proofs.Common.{number_takes, rules, string_bytes}
use Rattle.desk_client.proofs.OrderTexts.{same_text, prefix_digits, serial_digits, run_same}
use Rattle.desk_client.proofs.order.run_body.Goals as goal

pub returns-clause-text : goal.returns-clause-text
returns-clause-text c =
    same_text c.run_text.result string_bytes _ _
    (run_same c.number-count.result _ c.ascii_text-prefix.result.now _ c.ascii_text-serial.result.now _ c.number-count.ensures.value
    (prefix_digits c.write-number.result c.ascii_text-prefix.result.now c.args.run.now.first c.write-number.ensures.text c.ascii_text-prefix.ensures)
    (serial_digits c.write-number.result c.ascii_text-serial.result.now c.args.run.now.first c.write-number.ensures.text c.ascii_text-serial.ensures))
    c.run_text.ensures

pub returns-clause-run : goal.returns-clause-run
returns-clause-run c = ((number_takes c.write-number.result c.args.run.now.first c.write-number.ensures.read_again).0, search rules)
