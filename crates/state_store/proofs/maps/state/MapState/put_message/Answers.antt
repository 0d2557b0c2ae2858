use Rattle.state_store.proofs.Common.{[], ap, arith, cargo_of, rules, sent, state_of, texts_in, ◌++◌, ◌∙◌, ◌∷◌, ◌≡◌}
use Rattle.state_store.proofs.Writing.{room_message, shows_more, texts_more}
use Rattle.state_store.proofs.maps.state.MapState.put_message.Goals as goal

pub returns : goal.returns
returns c = λ s h.
    let old = c.args.self.now in
    let text = c.args.text.now in
    let kept : c.in_ok-text.text.items ≡ text = search rules in
    let e : texts_in c.push.new.self.items ≡ texts_in old.outbox.items ++ text ∷ [] = ap texts_in c.in_ok-push.ensures.items ∙ texts_more old.outbox.items _ ∙ ap (λ l. texts_in old.outbox.items ++ l ∷ []) kept in
    shows_more old _ s (sent (text ∷ [])) h (λ i. record (state_of old) { cargo = record (cargo_of old) { outbox = e i } }) h.summed (room_message old s h text (omega arith))
