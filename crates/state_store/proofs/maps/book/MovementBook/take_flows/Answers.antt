use Rattle.std.proofs.Common.{None}
use Rattle.state_store.proofs.Posting.{taken_some, taken_none, other_entry}
use Rattle.state_store.proofs.maps.book.MovementBook.take_flows.Goals as goal

pub returns-in-Some-clause-taken : goal.returns-in-Some-clause-taken
returns-in-Some-clause-taken c = taken_some c.args.self.now.loads c.args.flight.now c.in-Some.flows c.remove.result c.remove.ensures.value c.in-Some.is

pub returns-in-None-clause-taken : goal.returns-in-None-clause-taken
returns-in-None-clause-taken c = taken_none c.args.self.now.loads c.args.flight.now c.new.result c.remove.result c.remove.ensures.value c.in-None.is c.new.ensures.empty

pub returns-in-Some-clause-others : goal.returns-in-Some-clause-others
returns-in-Some-clause-others c = λ k e. other_entry _ _ _ None e (c.remove.ensures.updates.0 k)

pub returns-in-None-clause-others : goal.returns-in-None-clause-others
returns-in-None-clause-others c = λ k e. other_entry _ _ _ None e (c.remove.ensures.updates.0 k)
