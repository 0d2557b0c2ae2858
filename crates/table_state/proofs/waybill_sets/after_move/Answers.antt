use Rattle.table_state.proofs.Common.{HasAsked, subst, sym, ◌∙◌}
use Rattle.table_state.proofs.Asked.{kept_still, kept_too}
use Rattle.table_state.proofs.Announcing.{some_so}
use Rattle.table_state.proofs.waybill_sets.after_move.Goals as goal

pub returns-then-not-opens : goal.returns-then-not-opens
returns-then-not-opens c = λ book kept.
    kept_still c.args.query book c.args.movement.now c.in_ok-waybills.waybills.keys (sym c.opens.ensures ∙ c.if-not-opens.true) (subst (λ o. HasAsked c.args.query o book) c.in_ok-waybills.was kept)

pub returns : goal.returns
returns c = λ book kept.
    some_so c.with_waybill.result (λ more is. kept_too c.args.query book c.args.movement.now c.in_ok-waybills.waybills.keys more.keys is (subst (λ o. HasAsked c.args.query o book) c.in_ok-waybills.was kept)) c.with_waybill.ensures
