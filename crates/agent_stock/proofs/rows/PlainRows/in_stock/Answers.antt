use Rattle.agent_stock.proofs.Common.{AreRuns, Some, ap, get, holders_by, is_some, nat_cmp, subst, sym, ◌∙◌, ◌≡◌}
use Rattle.std.specs.Map.Iter.{deref_pair}
use Rattle.std.proofs.lemmas.Map.Views.{All-turn}
use Rattle.agent_stock.proofs.Keyed.{rows_in_order, holders_by_key, all_listed}
use Rattle.agent_stock.proofs.rows.PlainRows.in_stock.Goals as goal

pub unwrap-first-requires : goal.unwrap-first-requires
unwrap-first-requires c =
    let gives = c.into_iter-key-iterator.ensures.into_iter_gives in
    let at = All-turn deref_pair (λ e. get nat_cmp c.args.self.now.by_number e.0 ≡ Some e.1) _ _ _ _ _ _ _ gives.6 gives.0 c.loop-key.yielded_by c.in-Some.is c.next.ensures.steps in
    c.of_key.ensures.in_range.1 (c.args.self.now.are_numbers c.in-Some.key.now (ap is_some at))

pub returns-clause-rows : goal.returns-clause-rows
returns-clause-rows c =
    let es = c.args.self.now.by_number.entries in
    let listed = all_listed c.loop-key.rows.items c.loop-key.key-iterator es c.loop-key.invariant c.in-None.ensures.steps.0 in
    subst AreRuns (sym listed) (rows_in_order es c.into_iter-key-iterator.ensures.into_iter_gives.5)

pub returns-clause-holders : goal.returns-clause-holders
returns-clause-holders c =
    let es = c.args.self.now.by_number.entries in
    let listed = all_listed c.loop-key.rows.items c.loop-key.key-iterator es c.loop-key.invariant c.in-None.ensures.steps.0 in
    λ i q. (ap (λ l. holders_by l q) listed ∙ holders_by_key es q) i
