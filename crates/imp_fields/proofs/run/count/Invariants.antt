use Rattle.imp_fields.proofs.Common.{decimal_value, is_digit, list_all, take, true, ◌<◌, ◌^◌, ◌≡◌}
use Rattle.imp_fields.proofs.run.count.Given as goal

abbrev pub invariant-loop-b : goal.invariant-loop-b
invariant-loop-b l =
    (l.number ≡ decimal_value (take l.b-index l.digits)) × (l.number < 10 ^ l.b-index)
    × (list_all is_digit (take l.b-index l.digits) ≡ true)
