use Rattle.table_state.proofs.Common.{AreAnnounced, in_tables, rests_then}
use Rattle.table_state.proofs.state.TableState.announced_in_all.Goals as goal

pub returns : goal.returns
returns g c = rests_then (in_tables g.S.TableStore.view) c.args.self.now c.all_come.new.self c.declared_except.new.self (λ s rows. AreAnnounced s.cargo rows.items) c.in_ok-come.ensures c.declared_except.ensures (λ s have rows so. so have)
