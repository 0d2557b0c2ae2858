use Rattle.station_files.proofs.Common.{on_ok_weaker, order_of, remove_entry}
use Rattle.station_files.proofs.Owning.{sets_inside, shown, stays, stays_after}
use Rattle.station_files.proofs.own_trees.OwnTreesStore.remove.Goals as goal

pub returns-clause-ok : goal.returns-clause-ok
returns-clause-ok g c = on_ok_weaker c.remove.result (λ h clean. sets_inside c.args.self.now.inside c.in-Some.ensures (g.S.Store.view c.remove.new.self) (λ s. remove_entry (order_of s) c.args.entry.now) (h clean)) c.remove.ensures.ok

pub invariant_of-self : goal.invariant_of-self
invariant_of-self g c = record { inside = shown c.args.self.now.inside (g.S.Store.view c.remove.new.self) c.remove.ensures.quiet.clean (stays_after c.remove.result (on_ok_weaker c.remove.result (λ h clean. stays (h clean)) c.remove.ensures.frame) c.remove.ensures.err) }
