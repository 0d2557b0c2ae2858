use Rattle.std.proofs.Common.{arith, ◌≡◌, ◌∙◌, ap, sym, subst, filter, length, take}
use Rattle.station_core.proofs.Common.{AreExpectations, asks_for, expected_for, take_all}
use Rattle.station_core.proofs.Asked.{are_asked}
use Rattle.station_core.proofs.shipment.expectations_for.Goals as goal

pub returns : goal.returns
returns c = λ lines are.
    let all = c.args.all.now in
    let at : c.loop-expectation.expectation-index ≡ length all = omega (arith, c.loop-expectation-test.false, c.loop-expectation.auto.expectation-index-end) in
    let asked : c.loop-expectation.asked.items ≡ filter (asks_for c.args.query) all =
    c.loop-expectation.invariant ∙ ap (λ n. filter (asks_for c.args.query) (take n all)) at
    ∙ ap (filter (asks_for c.args.query)) (take_all _ all (omega arith)) in
    subst (AreExpectations (expected_for c.args.query lines)) (sym asked) (are_asked c.args.query lines all are)
