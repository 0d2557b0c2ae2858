use Rattle.state_store.proofs.Common.{ap, flat_map, loaded, ◌++◌, ◌∙◌}
use Rattle.state_store.proofs.BookLists.{all_loaded, row_last, row_more}
use Rattle.state_store.proofs.maps.listed.loads_in.Goals as goal

pub loop-key-init : goal.loop-key-init
loop-key-init c = ap (λ l. l ++ flat_map loaded c.into_iter-key-iterator.result) c.new-rows.ensures.items ∙ ap (λ l. flat_map loaded l) c.into_iter-key-iterator.ensures.into_iter_gives.0

pub loop-key-preserved : goal.loop-key-preserved
loop-key-preserved c = row_more loaded c.loop-key.rows.items c.put_load.new.rows.items _ c.loop-key.key-iterator c.next.new.self (c.in-Some.key.now, c.in-Some.flow.now) c.loop-key.invariant c.in-Some.ensures.steps c.in_ok-put_load.ensures

pub returns : goal.returns
returns c = λ book f summed.
    let gives = c.into_iter-key-iterator.ensures.into_iter_gives in
    row_last loaded c.loop-key.rows.items _ c.loop-key.key-iterator c.loop-key.invariant c.in-None.ensures.steps.0 ∙ all_loaded c.args.flows.now book f summed gives.5 gives.6
