use Rattle.imp_fields.proofs.Common.{Some, airport_of, arith, get_or, has_number_shape, length, slice_range, sym, take, true, ◌≡◌, ◌≤◌}
use Rattle.std.proofs.lemmas.Grind.{common_steps}
use Rattle.imp_fields.proofs.ShapeLaws.{route_found}
use Rattle.imp_fields.proofs.consignment.route.Goals as goal

pub returns-clause-shape : goal.returns-clause-shape
returns-clause-shape c =
    let line = c.args.line.now in
    let long : 19 ≤ length line = omega arith in
    let number : has_number_shape (take 12 line) ≡ true = grind (arith, common_steps) in
    let slash : get_or line 18 0 ≡ 47 = grind (arith, common_steps) in
    let from : airport_of (slice_range line 12 15) ≡ Some c.in_ok-origin.origin = grind (arith, common_steps) in
    let to : airport_of (slice_range line 15 18) ≡ Some c.in_ok-destination.destination = grind (arith, common_steps) in
    sym (route_found line c.in_ok-origin.origin c.in_ok-destination.destination long number slash from to)
