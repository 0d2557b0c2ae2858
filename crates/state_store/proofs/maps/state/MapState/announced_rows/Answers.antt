use Rattle.state_store.proofs.Common.{announced_by, ap, flat_map, ◌++◌, ◌∙◌}
use Rattle.state_store.proofs.AnnouncedOrder.{are_announced}
use Rattle.state_store.proofs.BookLists.{row_last, row_more}
use Rattle.state_store.proofs.maps.state.MapState.announced_rows.Goals as goal

pub loop-key-init : goal.loop-key-init
loop-key-init c = λ _.
    let by = announced_by c.args.self.now.book.moves.items in
    ap (λ l. l ++ flat_map by c.into_iter-key-iterator.result) c.new-rows.ensures.items ∙ ap (λ l. flat_map by l) c.into_iter-key-iterator.ensures.into_iter_gives.0

pub loop-key-preserved : goal.loop-key-preserved
loop-key-preserved c = λ summed.
    row_more (announced_by c.args.self.now.book.moves.items) c.loop-key.rows.items c.put_announced.new.rows.items _ c.loop-key.key-iterator c.next.new.self (c.in-Some.key.now, c.in-Some.declared.now)
    (c.loop-key.invariant summed) c.in-Some.ensures.steps (c.in_ok-put_announced.ensures summed)

pub returns : goal.returns
returns c = λ summed.
    are_announced c.args.self.now c.loop-key.rows.items c.into_iter-key-iterator.ensures.into_iter_gives.5
    (row_last (announced_by c.args.self.now.book.moves.items) c.loop-key.rows.items _ c.loop-key.key-iterator (c.loop-key.invariant summed) c.in-None.ensures.steps.0)
