use Rattle.state_store.proofs.Common.{ap, rules, state_of, with_text, ◌∙◌, ◌≡◌}
use Rattle.state_store.proofs.KeptRows.{texts_kept}
use Rattle.state_store.proofs.maps.state.MapState.keep_count.Goals as goal

pub returns : goal.returns
returns c = λ s h.
    let old = c.args.self.now in
    let text = c.args.text.now in
    let kept : c.in_ok-text.text.items ≡ text = search rules in
    let e = texts_kept old.kept_texts c.insert.new.self c.in_ok-text.text c.args.count text kept c.in_ok-insert.ensures.updates.0 in
    record { is = (λ i. record (state_of old) { kept_texts = λ t. e t i }) ∙ ap (with_text text c.args.count) h.is; room = h.room; summed = h.summed }
