use Rattle.state_store.proofs.Common.{[], aboard_of, ap, map, mapped, take, ◌++◌, ◌+◌, ◌∙◌, ◌∷◌, ◌≡◌}
use Rattle.state_store.proofs.Walks.{reads_then}
use Rattle.state_store.proofs.lines.declared_loads.Goals as goal

pub loop-load-preserved : goal.loop-load-preserved
loop-load-preserved g c =
    reads_then g.S.StateStore.storing c.args.store.now c.loop-load.store c.declared_load.new.store (λ s rows. rows ≡ map (aboard_of s.cargo) (take (c.loop-load.load-index + 1) c.args.loads.now)) c.push.new.self.items
    c.loop-load.invariant c.in_ok-declared_load.ensures
    (λ s before row. mapped (aboard_of s.cargo) c.args.loads.now c.loop-load.rows.items c.push.new.self.items c.loop-load.load-index c.load-item.result c.loop-load-test.true c.load-item.is
    before (c.in_ok-push.ensures.items ∙ ap (λ a. c.loop-load.rows.items ++ a ∷ []) row))
