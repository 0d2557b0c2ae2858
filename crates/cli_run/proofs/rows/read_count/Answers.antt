use Rattle.std.proofs.Common.{length, ◌∙◌}
use Rattle.cli_run.proofs.Digits.{given_as, seven_digits}
use Rattle.cli_run.proofs.rows.read_count.Goals as goal

pub returns : goal.returns
returns c =
    let told = c.in_ok-number.ensures in
    let within = seven_digits c.in_ok-number.number (length c.args.text.now) told.bound.0 told.bound.2 in
    given_as c.new.result c.in_ok-number.number (c.new.ensures.in_range.1 within) c.new.ensures.value ∙ told.value
