use Rattle.table_state.proofs.Common.{AreAllBalances, subst, sym}
use Rattle.table_state.proofs.Lifting.{at_rest_of, read_by}
use Rattle.table_state.proofs.Values.{by_counts}
use Rattle.table_state.proofs.state.TableState.all_come.Goals as goal

pub returns : goal.returns
returns g c = at_rest_of (read_by g.S.TableStore.view c.args.self.now _ _ _ _ c.in_ok-all.ensures (λ s means tells.
    c.numbers_come.ensures s.cargo.book (subst (AreAllBalances s.cargo.book) (sym c.deref.ensures.value) (by_counts _ s means (λ book. AreAllBalances book c.in_ok-all.all.items) tells))))
