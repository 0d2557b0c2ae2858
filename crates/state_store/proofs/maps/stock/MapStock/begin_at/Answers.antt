use Rattle.std.proofs.Common.{cond, nat_eq, Some, ap, ◌∙◌}
use Rattle.state_store.proofs.Named.{rises, begins, is_key}
use Rattle.state_store.proofs.Steps.{begun}
use Rattle.state_store.proofs.maps.stock.MapStock.begin_at.Goals as goal

pub returns-clause-same : goal.returns-clause-same
returns-clause-same c =
    let es = c.args.self.now.begins.entries in
    let fs = c.insert.new.self.entries in
    let k = c.args.key in
    λ i q. begun es fs k (rises es c.insert.ensures.was_ordered) (rises fs c.insert.ensures.ordered)
    (λ j. c.in_ok-insert.ensures.updates.0 j ∙ ap (λ b. cond b (Some c.at-holder.result) (begins es j)) (is_key k j) ∙ ap (λ h. cond (nat_eq k j) (Some h) (begins es j)) c.at-holder.ensures) q i
