use Rattle.std.proofs.Common.{filter, ap, ◌∙◌}
use Rattle.table_state.proofs.Common.{WaybillBalances, is_asked_for, told_so}
use Rattle.table_state.proofs.Balances.{from_all}
use Rattle.table_state.proofs.Lifting.{at_rest_of, read_by}
use Rattle.table_state.proofs.Values.{by_counts}
use Rattle.table_state.proofs.state.TableState.asked_in_all.Goals as goal

pub returns : goal.returns
returns g c = at_rest_of (read_by g.S.TableStore.view c.args.self.now _ _ _ _ c.in_ok-all.ensures (λ s means tells.
    told_so _ _ c.asked_among.result
    (λ rows are. are ∙ ap (filter (λ (row : WaybillBalances). is_asked_for c.args.query row.balances)) c.deref.ensures.value ∙ from_all c.args.query s.cargo.book c.in_ok-all.all.items (by_counts _ s means _ tells))
    c.asked_among.ensures))
