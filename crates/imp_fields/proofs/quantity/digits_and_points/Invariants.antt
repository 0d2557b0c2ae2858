use Rattle.imp_fields.proofs.Common.{count_by, is_digit_or_point, is_point, list_all, numerator_of, take, true, ◌<◌, ◌^◌, ◌≡◌}
use Rattle.imp_fields.proofs.quantity.digits_and_points.Given as goal

abbrev pub invariant-loop-b : goal.invariant-loop-b
invariant-loop-b l =
    (l.number ≡ numerator_of (take l.b-index l.numeral)) × (l.number < 10 ^ l.b-index)
    × (l.points ≡ count_by is_point (take l.b-index l.numeral)) × (list_all is_digit_or_point (take l.b-index l.numeral) ≡ true)
