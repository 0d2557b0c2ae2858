use Rattle.station_files.proofs.Common.{insert_entry, on_ok_weaker, order_of}
use Rattle.station_files.proofs.Owning.{sets_inside, shown, stays, stays_after}
use Rattle.station_files.proofs.own_trees.OwnTreesStore.insert.Goals as goal

pub returns-clause-ok : goal.returns-clause-ok
returns-clause-ok g c = on_ok_weaker c.insert.result (λ h clean. sets_inside c.args.self.now.inside c.in-Some.ensures (g.S.Store.view c.insert.new.self) (λ s. insert_entry (order_of s) c.args.entry.now) (h clean)) c.insert.ensures.ok

pub invariant_of-self : goal.invariant_of-self
invariant_of-self g c = record { inside = shown c.args.self.now.inside (g.S.Store.view c.insert.new.self) c.insert.ensures.quiet.clean (stays_after c.insert.result (on_ok_weaker c.insert.result (λ h clean. stays (h clean)) c.insert.ensures.frame) c.insert.ensures.err) }
