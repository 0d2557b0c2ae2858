use Rattle.agent_stock.specs.Stock.{AreStockRuns}
use Rattle.table_state.proofs.Lifting.{at_rest_of, read_so}
use Rattle.table_state.proofs.Values.{by_stock}
use Rattle.table_state.proofs.state.TableStateStateStore.runs.Goals as goal

pub returns : goal.returns
returns g c = at_rest_of (read_so g.S.TableStore.view c.args.self.now _ _ _ _ c.runs.ensures (λ s means runs. by_stock _ s means (λ holders. AreStockRuns holders runs.items)))
