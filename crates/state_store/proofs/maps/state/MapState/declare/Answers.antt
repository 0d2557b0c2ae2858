use Rattle.state_store.proofs.Common.{Declare, [], cargo_of, state_of, written}
use Rattle.state_store.proofs.Writing.{put_declared, shows_more}
use Rattle.state_store.proofs.maps.state.MapState.declare.Goals as goal

pub returns : goal.returns
returns c = λ s h.
    let old = c.args.self.now in
    let w = c.args.awb.now in
    let d = c.args.declared in
    let e = put_declared old.declared c.insert.new.self c.key.result w d c.key.ensures.value c.in_ok-insert.ensures.updates.0 in
    shows_more old _ s (written [] (Declare w d)) h (λ i. record (state_of old) { cargo = record (cargo_of old) { declared = λ q. e q i } }) h.summed h.room
