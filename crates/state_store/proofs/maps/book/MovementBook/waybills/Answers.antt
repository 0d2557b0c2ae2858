use Rattle.state_store.proofs.Common.{ap, asked_by, flat_map, ◌++◌, ◌∙◌}
use Rattle.state_store.proofs.BookLists.{all_asked, row_last, row_more}
use Rattle.state_store.proofs.maps.book.MovementBook.waybills.Goals as goal

pub loop-key-init : goal.loop-key-init
loop-key-init c = ap (λ l. l ++ flat_map (asked_by c.args.query) c.into_iter-key-iterator.result) c.new-rows.ensures.items ∙ ap (λ l. flat_map (asked_by c.args.query) l) c.into_iter-key-iterator.ensures.into_iter_gives.0

pub loop-key-preserved : goal.loop-key-preserved
loop-key-preserved c = row_more (asked_by c.args.query) c.loop-key.rows.items c.put_asked.new.rows.items _ c.loop-key.key-iterator c.next.new.self (c.in-Some.key.now, c.in-Some.flows.now) c.loop-key.invariant c.in-Some.ensures.steps c.in_ok-put_asked.ensures

pub returns : goal.returns
returns c = λ summed.
    let gives = c.into_iter-key-iterator.ensures.into_iter_gives in
    row_last (asked_by c.args.query) c.loop-key.rows.items _ c.loop-key.key-iterator c.loop-key.invariant c.in-None.ensures.steps.0 ∙ all_asked c.args.self.now.flows c.args.self.now.moves.items summed.waybills gives.5 gives.6 c.args.query
