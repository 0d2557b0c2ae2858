use Rattle.std.proofs.Common.{◌∙◌, ap, ◌++◌, map}
use Rattle.state_store.proofs.InOrder.{mapped_last, mapped_more}
use Rattle.state_store.proofs.NotedOrder.{are_noted, noted_of}
use Rattle.state_store.proofs.maps.state.MapState.noted_rows.Goals as goal

pub loop-key-init : goal.loop-key-init
loop-key-init c = ap (λ l. l ++ map noted_of c.into_iter-key-iterator.result) c.new-rows.ensures.items ∙ ap (map noted_of) c.into_iter-key-iterator.ensures.into_iter_gives.0

pub loop-key-preserved : goal.loop-key-preserved
loop-key-preserved c = mapped_more noted_of c.loop-key.rows.items c.push.new.self.items _ c.loop-key.key-iterator c.next.new.self (c.in-Some.key.now, c.in-Some.outbound.now) c.loop-key.invariant c.in-Some.ensures.steps c.in_ok-push.ensures.items

pub returns : goal.returns
returns c =
    are_noted c.args.self.now.flights c.loop-key.rows.items c.into_iter-key-iterator.ensures.into_iter_gives.5
    (mapped_last noted_of c.loop-key.rows.items _ c.loop-key.key-iterator c.loop-key.invariant c.in-None.ensures.steps.0)
