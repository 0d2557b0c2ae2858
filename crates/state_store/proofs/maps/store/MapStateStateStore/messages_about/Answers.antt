use Rattle.state_store.proofs.Common.{None, refl, rules}
use Rattle.state_store.proofs.Statuses.{anywhere, status_only}
use Rattle.state_store.specs.Store.{in_memory}
use Rattle.state_store.proofs.maps.store.MapStateStateStore.messages_about.Goals as goal

pub returns : goal.returns
returns g c = status_only in_memory _ _ _ g.K.Sink.takes c.args.awb.now 0 None _ _ _ _ c.messages_by.ensures refl refl (λ s shown sound. anywhere c.args.awb.now 1 s.cargo.outbox (search rules)) refl (λ name. search rules)
