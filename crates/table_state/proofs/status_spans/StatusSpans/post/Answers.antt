use Rattle.table_state.proofs.Common.{AreTold, rules, subst, sym, ◌≡◌}
use Rattle.table_state.proofs.StatusParts.{posted}
use Rattle.table_state.proofs.status_spans.StatusSpans.post.Goals as goal

pub returns : goal.returns
returns c = λ outbox one are.
    let was : c.take.result ≡ c.args.self.now.kept = search rules in
    posted _ _ outbox c.args.text.now c.args.number c.with_message.ensures one (subst (λ o. AreTold o outbox) (sym was) are)
