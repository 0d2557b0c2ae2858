use Rattle.desk_client.proofs.Common.{arith, refl, rules, run_object, string_bytes, view, ◌≡◌}
use Rattle.serde_json.specs.declared.value.Value.{the_lemmas}
use Rattle.serde_json.proofs.OnLiterals.{serde_json_on_literals}
use Rattle.desk_client.proofs.OrderTexts.{written}
use Rattle.desk_client.proofs.order.run_text.Goals as goal

pub returns : goal.returns
unfolding serde_json_on_literals
returns c =
    let built : view c.in_ok-json.field-0 ≡ run_object c.args.count c.args.prefix.now c.args.serial.now = search (rules, the_lemmas) in
    written c.to_string.result string_bytes (view c.in_ok-json.field-0) (run_object c.args.count c.args.prefix.now c.args.serial.now) built refl (omega arith)
    c.to_string.ensures.text c.to_string.ensures.reads_back
