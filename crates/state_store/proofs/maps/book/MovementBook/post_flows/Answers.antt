use Rattle.state_store.proofs.Common.{ap, flows_with, get, nat_cmp, no_flows, sym, unwrap_or, ◌∙◌}
use Rattle.state_store.proofs.Posting.{posted_waybill}
use Rattle.state_store.proofs.maps.book.MovementBook.post_flows.Goals as goal

pub returns-clause-posted : goal.returns-clause-posted
returns-clause-posted c = λ summed.
    let book = c.args.self.now in
    let m = c.args.movement.now in
    posted_waybill book.flows c.insert.new.self book.moves.items m c.key.result c.in_ok-flows.flows c.key.ensures.value
    (c.in_ok-flows.ensures ∙ ap (λ f. flows_with f m) (c.flows.ensures ∙ ap (λ n. unwrap_or (get nat_cmp book.flows n) no_flows) (sym c.key.ensures.value)))
    c.in_ok-insert.ensures.updates.0 summed.waybills
