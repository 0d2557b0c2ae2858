use Rattle.table_state.proofs.Common.{AreCovered, rules, subst, sym, ◌≡◌}
use Rattle.table_state.proofs.Spans.{posted}
use Rattle.table_state.proofs.flight_spans.FlightSpans.post.Goals as goal

pub returns : goal.returns
returns c = λ book one are.
    let was : c.take.result ≡ c.args.self.now.kept = search rules in
    posted _ _ book c.args.movement.now c.args.number c.with_move.ensures one (subst (λ o. AreCovered o book) (sym was) are)
