use Rattle.table_state.proofs.Common.{in_tables, refl, rules}
use Rattle.state_store.proofs.Statuses.{status_only}
use Rattle.table_state.proofs.state.TableStateStateStore.messages_about.Goals as goal

pub returns : goal.returns
returns g c =
    status_only (in_tables g.S.TableStore.view) _ _ _ g.K.Sink.takes c.args.awb.now c.of-part.result.after c.of-part.result.last _ _ _ _ c.messages_by.ensures refl refl
    (λ s shown sound. c.of-part.ensures s.cargo.outbox (shown sound).kept.spans.statuses) refl (λ name. search rules)
