use Rattle.std.proofs.Common.{refl, rules, sym, ◌∙◌}
use Rattle.table_state.proofs.Balances.{none_put, row_put}
use Rattle.table_state.proofs.Lifting.{at_rest_of, sums_by}
use Rattle.table_state.proofs.Values.{by_counts}
use Rattle.table_state.proofs.state.TableState.put_asked.Goals as goal

pub returns-then-not-asks_for : goal.returns-then-not-asks_for
returns-then-not-asks_for g c = at_rest_of (sums_by g.S.TableStore.view c.args.self.now _ _ _ _ _ refl refl refl refl refl c.in_ok-balances.ensures.reads (λ s means tells.
    let sums = by_counts _ s means _ tells in
    (none_put c.args.query s.cargo.book c.args.number c.in_ok-awb.awb c.in_ok-balances.balances c.args.rows.now.items (rw c.in_ok-awb.ensures.ok_part at c.of_key.ensures.value) sums.0 (sym c.asks_for.ensures ∙ c.if-not-asks_for.true), sums.1)))

pub returns-in_err-push : goal.returns-in_err-push
returns-in_err-push g c = at_rest_of (sums_by g.S.TableStore.view c.args.self.now _ _ _ _ _ refl refl refl refl refl c.in_ok-balances.ensures.reads (λ s means tells.
    let sums = by_counts _ s means _ tells in
    (search rules, sums.1)))

pub returns : goal.returns
returns g c = at_rest_of (sums_by g.S.TableStore.view c.args.self.now _ _ _ _ _ refl refl refl refl refl c.in_ok-balances.ensures.reads (λ s means tells.
    let sums = by_counts _ s means _ tells in
    (row_put c.args.query s.cargo.book c.args.number c.in_ok-awb.awb c.in_ok-balances.balances c.args.rows.now.items _ c.in_ok-push.ensures.items (rw c.in_ok-awb.ensures.ok_part at c.of_key.ensures.value) sums.0 (sym c.asks_for.ensures ∙ c.if-not-asks_for.false), sums.1)))
