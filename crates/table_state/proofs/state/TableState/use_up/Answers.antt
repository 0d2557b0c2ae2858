use Rattle.std.proofs.Common.{[]}
use Rattle.table_state.proofs.Changes.{uses_up_on}
use Rattle.table_state.proofs.Lifting.{of_answer, writes_so}
use Rattle.table_state.proofs.state.TableState.use_up.Goals as goal

pub returns : goal.returns
returns g c =
    writes_so g.S.TableStore.view _ _ _ _ c.use_up.ensures.survives (λ before s shown.
    of_answer _ c.use_up.result (λ _ is. uses_up_on _ _ _ _ _ before s shown c.use_up.ensures.survives [] c.args.awb.now (rw is at (c.use_up.ensures.done (g.S.TableStore.view c.args.self.now.store).committed (g.S.TableStore.view c.args.self.now.store).now))))
