use Rattle.std.proofs.Common.{refl}
use Rattle.table_state.proofs.Lifting.{sums_so}
use Rattle.table_state.proofs.Values.{by_counts}
use Rattle.table_state.proofs.state.TableStateStateStore.balances.Goals as goal

pub returns : goal.returns
returns g c = sums_so g.S.TableStore.view c.args.self.now _ _ _ _ _ refl refl refl refl refl c.balances.ensures.reads c.balances.ensures.known_at_err (λ s means balances. by_counts _ s means _)
