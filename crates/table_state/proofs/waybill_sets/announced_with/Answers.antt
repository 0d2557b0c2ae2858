use Rattle.table_state.proofs.Common.{HasAnnounced, subst}
use Rattle.table_state.proofs.Announcing.{declared_too, some_so}
use Rattle.table_state.proofs.waybill_sets.announced_with.Goals as goal

pub returns : goal.returns
returns c = λ book declared new kept.
    some_so c.with_waybill.result (λ more is. declared_too book declared c.args.awb.now new c.in_ok-waybills.waybills.keys more.keys is (subst (λ o. HasAnnounced o book declared) c.in_ok-waybills.was kept)) c.with_waybill.ensures
