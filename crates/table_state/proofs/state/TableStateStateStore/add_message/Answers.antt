use Rattle.std.proofs.Common.{rules, refl, ◌≡◌, ◌+◌}
use Rattle.table_state.proofs.Changes.{adds_message_on}
use Rattle.table_state.proofs.Lifting.{writes_so}
use Rattle.table_state.proofs.state.TableStateStateStore.add_message.Goals as goal

pub returns : goal.returns
returns g c =
    let next : c.in_ok-number.number ≡ c.args.self.now.counted.sizes.messages + 1 = search rules in
    writes_so g.S.TableStore.view _ _ _ _ c.in_ok-write.ensures.made.survives (λ before s shown.
    adds_message_on _ _ _ _ _ before s shown c.in_ok-write.ensures.made.survives c.in_ok-number.number c.args.text.now _ c.in_ok-row.ensures.value c.in_ok-row.ensures.lawful next _ refl refl refl refl refl (λ book outbox one have. record { flights = have.flights; statuses = c.post.ensures outbox one have.statuses }) (c.in_ok-write.ensures.made.done _ _))
