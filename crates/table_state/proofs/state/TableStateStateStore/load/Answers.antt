use Rattle.std.proofs.Common.{refl}
use Rattle.table_state.proofs.Lifting.{sums_so}
use Rattle.table_state.proofs.Values.{by_builds}
use Rattle.table_state.proofs.state.TableStateStateStore.load.Goals as goal

pub returns : goal.returns
returns g c = sums_so g.S.TableStore.view c.args.self.now _ _ _ _ _ refl refl refl refl refl c.load.ensures.reads c.load.ensures.known_at_err (λ s means load. by_builds _ s means _)
