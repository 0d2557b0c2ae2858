use Rattle.state_store.proofs.Posting.{posted_load}
use Rattle.state_store.proofs.maps.book.MovementBook.post_load.Goals as goal

pub returns-clause-posted : goal.returns-clause-posted
returns-clause-posted c =
    posted_load c.args.self.now.loads c.take_flows-flows.new.self.loads c.insert.new.self c.args.place.now c.in-Built.flight c.args.movement.now c.of-key.result
    c.take_flows-flows.result c.post_flow.new.flows c.in-Built.is c.of-key.ensures c.take_flows-flows.ensures.taken c.in_ok-post_flow.ensures c.take_flows-flows.ensures.others c.in_ok-insert.ensures.updates.0
