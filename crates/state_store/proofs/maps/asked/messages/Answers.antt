use Rattle.state_store.proofs.Common.{[], arith, message, ◌++◌, ◌+◌, ◌∙◌, ◌∷◌, ◌≡◌}
use Rattle.state_store.proofs.BookLists.{listed_more}
use Rattle.state_store.proofs.Numbered.{ahead_mapped}
use Rattle.state_store.proofs.maps.asked.messages.Goals as goal

pub loop-at-preserved : goal.loop-at-preserved
loop-at-preserved c =
    let v = c.index-outbox-at.result in
    let number : c.in-Ok.number ≡ c.loop-at.at + 1 = omega arith in
    listed_more c.loop-at.rows.items c.put_message.new.rows.items _ _ _ (message (c.loop-at.at + 1) v.items) c.loop-at.invariant
    (ahead_mapped (λ t. t.items) message c.args.outbox.now c.loop-at.at v (omega arith) c.index-outbox-at.is)
    (c.in_ok-put_message.ensures ∙ (λ i. c.loop-at.rows.items ++ message (number i) (c.deref.ensures.value i) ∷ []))
