use Rattle.state_store.proofs.Common.{Expected, FlightKey, [], ap, map, ℕ, ◌++◌, ◌∙◌, ◌∷◌}
use Rattle.state_store.proofs.InOrder.{are_expectations, expectation_of, mapped_last, mapped_more}
use Rattle.state_store.proofs.lines.ExpectedLines.listed.Goals as goal

pub loop-key-init : goal.loop-key-init
loop-key-init c = ap (λ l. l ++ map expectation_of c.into_iter-key-iterator.result) c.new-rows.ensures.items ∙ ap (map expectation_of) c.into_iter-key-iterator.ensures.into_iter_gives.0

pub loop-key-preserved : goal.loop-key-preserved
loop-key-preserved c =
    let e : (FlightKey × ℕ) × Expected = (c.in-Some.key.now, c.in-Some.expected.now) in
    mapped_more expectation_of c.loop-key.rows.items c.push.new.self.items _ c.loop-key.key-iterator c.next.new.self e c.loop-key.invariant c.in-Some.ensures.steps
    (c.in_ok-push.ensures.items ∙ ap (λ w. c.loop-key.rows.items ++ record { flight = e.0.0.flight; awb = w; expected = e.1 } ∷ []) c.in-Some-of_key.ensures.value)

pub returns : goal.returns
returns c =
    are_expectations c.args.self.now c.loop-key.rows.items c.into_iter-key-iterator.ensures.into_iter_gives.5
    (mapped_last expectation_of c.loop-key.rows.items _ c.loop-key.key-iterator c.loop-key.invariant c.in-None.ensures.steps.0)
