use Rattle.state_store.proofs.Common.{Expect, [], cargo_of, state_of, written}
use Rattle.state_store.proofs.Writing.{shows_more}
use Rattle.state_store.proofs.maps.state.MapState.expect.Goals as goal

pub returns : goal.returns
returns c = λ s h.
    let old = c.args.self.now in
    let flight = c.args.flight.now in
    let w = c.args.awb.now in
    shows_more old _ s (written [] (Expect flight w c.args.expected)) h (λ i. record (state_of old) { cargo = record (cargo_of old) { expected = c.in_ok-put.ensures.put i } }) h.summed h.room
