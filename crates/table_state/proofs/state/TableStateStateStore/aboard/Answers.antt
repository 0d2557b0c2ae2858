use Rattle.std.proofs.Common.{refl}
use Rattle.table_state.proofs.Lifting.{sums_so}
use Rattle.table_state.proofs.Values.{by_builds}
use Rattle.table_state.proofs.state.TableStateStateStore.aboard.Goals as goal

pub returns : goal.returns
returns g c = sums_so g.S.TableStore.view c.args.self.now _ _ _ _ _ refl refl refl refl refl c.aboard.ensures.reads c.aboard.ensures.known_at_err (λ s means loads. by_builds _ s means _)
