use Rattle.std.proofs.Common.{◌≡◌}
use Rattle.table_state.proofs.Lifting.{read_so}
use Rattle.table_state.proofs.Values.{by_stock}
use Rattle.table_state.proofs.state.TableStateStateStore.holder.Goals as goal

pub returns : goal.returns
returns g c = read_so g.S.TableStore.view c.args.self.now _ _ _ _ c.holder.ensures (λ s means holder. by_stock _ s means (λ holders. holder ≡ holders c.args.awb.now))
