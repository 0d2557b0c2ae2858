use Rattle.state_store.proofs.Common.{Some, ap, arith, cond, holders_of, nat_eq, nat_le, nat_lt, ℕ, ◌&&◌, ◌+◌, ◌<◌, ◌∙◌, ◌≡◌}
use Rattle.state_store.proofs.Named.{rises, begins, is_key}
use Rattle.state_store.proofs.Steps.{given}
use Rattle.state_store.proofs.Serials.{not_empty}
use Rattle.state_store.proofs.maps.stock.MapStock.assign.Goals as goal

pub returns-clause-ok : goal.returns-clause-ok
returns-clause-ok c =
    let run = c.args.run.now in
    let to = Some c.args.holder.now in
    let first = c.key-first.result in
    let end = c.key-first.result + c.from.result in
    let es = c.begin_at-2.new.self.begins.entries in
    let gs = c.join_between.new.self.begins.entries in
    let fs = c.insert.new.self.entries in
    let at : first ≡ run.first = c.key-first.ensures.value in
    let till : end ≡ run.first + run.count = omega (arith, c.key-first.ensures.value, c.from.ensures, c.number.ensures.value) in
    let more : run.first < run.first + run.count = not_empty run.first run.count c.requires.run in
    let some : first < end = omega (arith, at, till, more) in
    let ends = c.begin_at-2.ensures.others end c.in_ok-begin_at.ensures.begun in
    let same : holders_of c.begin_at-2.new.self ≡ holders_of c.args.self.now = c.begin_at-2.ensures.same ∙ c.begin_at.ensures.same in
    let is = λ (j : ℕ). c.in-Ok.ensures.updates.0 j ∙ ap (λ b. cond b (Some to) (begins gs j)) (is_key first j) ∙ ap (cond (nat_eq first j) (Some to)) (c.join_between.ensures j) in
    λ i q. (given es fs first end to (rises es c.begin_at-2.ensures.ordered) (rises fs c.insert.ensures.ordered) some ends is q
    ∙ (λ k. cond (nat_le (at k) q && nat_lt q (till k)) to (same k q))) i
