use Rattle.station_core.proofs.Common.{ap, is_key, sym, true, ◌∙◌, ◌≡◌}
use Rattle.awb_number.proofs.FilledUp.{IsFilledUp-written, take-written}
use Rattle.station_core.proofs.Keys.{length-key}
use Rattle.station_core.proofs.key.Key.read.Goals as goal

pub invariant_of-result : goal.invariant_of-result
invariant_of-result c =
    let text = c.args.text.now in
    let passes : is_key text ≡ true = sym c.is_key.ensures ∙ c.if-not-is_key.false in
    rw c.copy_from_slice.ensures.after (IsFilledUp-written 40 text (length-key text passes), ap is_key (take-written 40 text) ∙ passes)
