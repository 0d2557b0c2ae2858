use Rattle.std.proofs.Common.{rules, ap, map, filter, pos, ◌∙◌, SFits, w64}
use Rattle.table_state.proofs.Common.{begins_after, is_message_after, message_meant, message_of, messages_by, messages_handed, to_z-of_z}
use Rattle.table_state.proofs.Passing.{handed_so}
use Rattle.table_state.proofs.state.TableStateStateStore.messages_by.Goals as goal

pub returns : goal.returns
returns g c =
    let fits : SFits w64 c.from-number.result = search rules in
    let is_mark = to_z-of_z w64 c.from-number.result fits ∙ c.from-number.ensures in
    handed_so g.S.TableStore.view c.args.self.now _ g.K.Sink.takes message_meant message_of (λ t. filter (is_message_after _) t.outbox) (λ s. messages_by c.args.query.now s.cargo)
    (λ s means tells. ap (λ z. map message_of (filter (is_message_after z) (g.S.TableStore.view c.args.self.now.store).now.outbox)) (is_mark ∙ ap pos (c.begins_after.ensures ∙ ap (begins_after c.args.query.now) tells.knows.confirmed_is)) ∙ messages_handed _ s means _)
    c.new-telling.result c.hand_out-read.new.sink _ _ c.ended.result c.hand_out-read.ensures (rw c.is_stuck.ensures at c.ended.ensures) c.new-telling.ensures.same (λ name. search rules)
