use Rattle.std.proofs.Common.{None, Some, rules, subst, sym, ◌∙◌, ◌≡◌}
use Rattle.table_state.proofs.StatusParts.{no_span, same_some}
use Rattle.table_state.proofs.Common.{IsSpanned}
use Rattle.table_state.proofs.status_spans.with_message.Goals as goal

pub returns-in-None : goal.returns-in-None
returns-in-None c = record {
  grows = λ w n h. h;
  there = λ w is about. absurd (no_span c.waybill_told.result c.in-None.is w (c.waybill_told.ensures c.args.number w is about));
}

pub returns-in-Some : goal.returns-in-Some
returns-in-Some c = record {
  grows = c.with_status.ensures.grows;
  there = λ w is about.
      let same : c.in-Some.awb ≡ w = same_some _ _ (sym c.in-Some.is ∙ c.waybill_told.ensures c.args.number w is about) in
      subst (λ v. IsSpanned c.with_status.result v c.args.number) same c.with_status.ensures.there;
}
