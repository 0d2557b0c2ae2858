use Rattle.state_store.proofs.Common.{ap, flow_with, ◌∙◌}
use Rattle.state_store.proofs.Posting.{posted_flow}
use Rattle.state_store.proofs.maps.book.post_flow.Goals as goal

pub returns : goal.returns
returns c =
    let place = c.args.place.now in
    let m = c.args.movement.now in
    posted_flow c.args.flows.now c.insert.new.self place m c.key.result c.in_ok-flow.flow c.key.ensures.value
    (c.in_ok-flow.ensures ∙ ap (λ f. flow_with place f m) c.flow_of.ensures) c.in_ok-insert.ensures.updates.0
