use Rattle.std.proofs.Common.{rules, ◌≡◌, ◌+◌, sym, ap, subst, ◌∙◌, to_z-of_z}
use Rattle.table_state.proofs.Common.{IsBoarded, joins}
use Rattle.table_state.proofs.OneMore.{passes, stays_aboard, comes_aboard}
use Rattle.table_state.proofs.boarding.after_move.Goals.{else-is_on-2-via-then-is_on-2+else-joins, else-is_on-2-via-else-is_on-2}
use Rattle.table_state.proofs.boarding.after_move.Goals as goal

pub returns-then-joins : goal.returns-then-joins
returns-then-joins c = λ book known there.
    let next : c.in_ok-waybills.waybills ≡ c.in_ok-kept.kept.waybills + 1 = search rules in
    next ∙ ap (λ n. n + 1) (subst (λ o. IsBoarded o book) c.in_ok-kept.was known)
    ∙ sym (comes_aboard book c.args.movement.now c.in_ok-kept.kept.flight (sym c.is_on.ensures ∙ c.if-is_on.false) (sym c.is_on-2.ensures ∙ c.if-is_on-2.true) c.args.were there
    (ap (λ z. joins z c.args.movement.now.pieces) (sym (to_z-of_z c.ranges.were)) ∙ sym c.joins.ensures ∙ c.if-joins.true))

pub returns : goal.returns
returns c = λ book known there.
    subst (λ o. IsBoarded o book) c.in_ok-kept.was known
    ∙ sym (elim c.else-is_on-2.branch [
      | else-is_on-2-via-then-is_on-2+else-joins w ↦ stays_aboard book c.args.movement.now c.in_ok-kept.kept.flight (sym c.is_on.ensures ∙ c.if-is_on.false) (sym c.is_on-2.ensures ∙ w.if-is_on-2.true) c.args.were there
          (ap (λ z. joins z c.args.movement.now.pieces) (sym (to_z-of_z c.ranges.were)) ∙ sym w.joins.ensures ∙ w.if-joins.false)
      | else-is_on-2-via-else-is_on-2 w ↦ passes book c.args.movement.now c.in_ok-kept.kept.flight (sym c.is_on.ensures ∙ c.if-is_on.false) (sym c.is_on-2.ensures ∙ w.if-is_on-2.false)
    ])
