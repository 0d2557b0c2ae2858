use Rattle.state_store.proofs.Common.{UseUp, [], cargo_of, holders_of, state_of, written}
use Rattle.state_store.proofs.Writing.{put_used, shows_more}
use Rattle.state_store.proofs.maps.state.MapState.use_up.Goals as goal

pub returns : goal.returns
returns c = λ s h.
    let old = c.args.self.now in
    let w = c.args.awb.now in
    let e = put_used (holders_of old.stock) (holders_of c.assign.new.self) c.of_one.result w c.of_one.ensures.value c.in_ok-assign.ensures.ok in
    shows_more old _ s (written [] (UseUp w)) h (λ i. record (state_of old) { cargo = record (cargo_of old) { holders = λ q. e q i } }) h.summed h.room
