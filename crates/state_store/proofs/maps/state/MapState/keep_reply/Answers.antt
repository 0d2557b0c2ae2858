use Rattle.state_store.proofs.Common.{ap, rules, state_of, string_bytes, with_key, ◌∙◌, ◌≡◌}
use Rattle.state_store.proofs.KeptRows.{keyed_more}
use Rattle.state_store.proofs.maps.state.MapState.keep_reply.Goals as goal

pub returns : goal.returns
returns c = λ s h.
    let old = c.args.self.now in
    let key = c.args.key.now in
    let named : c.in_ok-name.name.items ≡ key = search rules in
    let asked : string_bytes c.in_ok-request.request ≡ c.args.request.now = search rules in
    let e = keyed_more old.kept_keys c.insert.new.self c.in_ok-name.name (c.in_ok-request.request, c.args.count) key c.args.request.now named asked c.in_ok-insert.ensures.updates.0 in
    record { is = (λ i. record (state_of old) { kept_keys = λ k. e k i }) ∙ ap (with_key key (record { request = c.args.request.now; count = c.args.count })) h.is; room = h.room; summed = h.summed }
