use Rattle.table_state.proofs.Common.{HasAnnounced, subst, sym, ◌∙◌}
use Rattle.table_state.proofs.Announcing.{announced_still, announced_too, some_so}
use Rattle.table_state.proofs.waybill_sets.announced_after.Goals as goal

pub returns-then-not-takes_back : goal.returns-then-not-takes_back
returns-then-not-takes_back c = λ book declared kept.
    announced_still book declared c.args.movement.now c.in_ok-waybills.waybills.keys (sym c.takes_back.ensures ∙ c.if-not-takes_back.true) (subst (λ o. HasAnnounced o book declared) c.in_ok-waybills.was kept)

pub returns : goal.returns
returns c = λ book declared kept.
    some_so c.with_waybill.result (λ more is. announced_too book declared c.args.movement.now c.in_ok-waybills.waybills.keys more.keys is (subst (λ o. HasAnnounced o book declared) c.in_ok-waybills.was kept)) c.with_waybill.ensures
