use Rattle.std.proofs.Common.{None, Some, arith, rules, subst, ◌≡◌}
use Rattle.std.specs.BTreeMap.{get}
use Rattle.awb_number.specs.Number.{IsNumber}
use Rattle.table_state.proofs.Common.{AreTold, nat_cmp}
use Rattle.table_state.proofs.StatusParts.{within_all, within_none, within_span}
use Rattle.table_state.proofs.status_spans.StatusSpans.of.Goals as goal

pub returns-in_default : goal.returns-in_default
returns-in_default c = λ outbox told. within_all c.args.awb.now outbox 1 (omega arith)

pub returns-in-None : goal.returns-in-None
returns-in-None c = λ outbox told.
    let kept : c.args.self.now.kept ≡ Some c.in-Some.spans.now = search rules in
    let none : get nat_cmp c.in-Some.spans.now c.args.awb.now ≡ None = search rules in
    within_none c.in-Some.spans.now c.args.awb.now (subst IsNumber c.key.ensures.value c.key.ensures.bound) none outbox (subst (λ o. AreTold o outbox) kept told)

pub returns-in-Some-get : goal.returns-in-Some-get
returns-in-Some-get c = λ outbox told.
    let kept : c.args.self.now.kept ≡ Some c.in-Some.spans.now = search rules in
    let has : get nat_cmp c.in-Some.spans.now c.args.awb.now ≡ Some c.in-Some-get.span.now = search rules in
    within_span c.in-Some.spans.now c.args.awb.now (subst IsNumber c.key.ensures.value c.key.ensures.bound) c.in-Some-get.span.now has outbox (subst (λ o. AreTold o outbox) kept told)
